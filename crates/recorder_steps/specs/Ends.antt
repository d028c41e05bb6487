-- What a step hands back.
-- Assumes nothing.
use Rattle.sync.specs.declared.Fed.{Fed}
use Rattle.recorder_rules.specs.declared.Laid.{Laid}
use Rattle.recorder_rules.specs.declared.Stepped.{Stepped}

-- what the synchroniser answered, and what is laid of its frames
abbrev pub stepped_of : Fed → Laid → Stepped
stepped_of f l =
    record { used = f.used; size = l.size; accepted = l.accepted; answer = f.pushed.answer; next = record { sync = f.pushed.next; earlier = l.earlier } }
