-- What is made of frames, by what is asked: passed on.
-- Assumes nothing.
pub use Rattle.recorder_asks.specs.Asks.{decoded_text, spoken_body, spoken_text, speaking, making_of, need_of}
