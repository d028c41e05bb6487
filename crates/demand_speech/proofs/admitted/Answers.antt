use mathlib.Core.Path.{sym, ◌∙◌}
use Rattle.protected_rules.proofs.Admission.{admits_admitted, admitted_admits}
use Rattle.demand_speech.proofs.admitted.Goals as goal

pub returns : goal.returns
returns c = ((λ t. admits_admitted _ (sym c.admitted.ensures ∙ t)), (λ a. c.admitted.ensures ∙ admitted_admits _ a))
