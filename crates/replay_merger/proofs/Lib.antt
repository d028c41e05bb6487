mod Steps
mod Telling
mod Wholes
