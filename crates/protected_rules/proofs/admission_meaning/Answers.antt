use Rattle.protected_rules.proofs.Admission.{admits_admitted, admitted_admits}
use Rattle.protected_rules.proofs.Examples.{stand_in_admitted, longer_refused, odd_refused, even_refused, replaced_refused}
use Rattle.protected_rules.proofs.admission_meaning.Goals as goal

pub returns : goal.returns
returns c =
    record {
      passes = admitted_admits;
      rules = admits_admitted;
      stand_in_lem = stand_in_admitted;
      long = longer_refused;
      odd = odd_refused;
      even = even_refused;
      once = replaced_refused;
    }
