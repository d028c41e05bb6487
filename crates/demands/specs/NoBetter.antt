-- Document 02, A9, "No better path. Contractors ask whether another make of decoder could read more."
--
-- In plain words: the 176 coded bits of a received word are the code of 94 bits that end in eight zeros, with errors. Of all 94 bits that end so the
-- path search finds those whose code lies nearest to the received bits: nearest by how many bits disagree or, with reliabilities, by the sum of the
-- reliabilities of those that disagree. No make of decoder can find nearer ones. Where it finds others, those lie as near at best, and where ours lie
-- more than 8 bits away, so do all.
--
-- What it does not say: the bits found must still pass the checks behind the search (checksum, distance, tail), and the nearest may fail where
-- others, further away, would pass. A decoder that lets the checks choose among several may therefore read a word that ours refuses. It speaks of the
-- protected bits alone, and of no other nearness. Assumes nothing.
use Rattle.voice_path_rules.specs.Nearest.{NearestPath}
use Rattle.voice_rules.specs.Nearest.{NearestTried}

pub record NoBetterPath : Type 0 where
  -- of the calls `voice_path::search_by` and `voice_path::search`: for every admitted table, all received bits and all weights
  -- (crates/voice_path_rules/specs/Nearest.antt)
  pub searches : NearestPath
  -- of a decoding: what it tries after a search are these nearest bits, hard in stages (b), (c) and (d), and soft (crates/voice_rules/specs/Nearest.antt)
  pub decoding : NearestTried
