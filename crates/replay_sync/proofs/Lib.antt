mod Reading
mod Telling
