-- What is known of an answer.
use Rattle.std.proofs.Common.{Result, Ok, Err}
use Rattle.std.specs.Prelude.{OnOk}

pub on_ok : {A E P Q : Type 0} (r : Result A E) → (P → Q) → OnOk r P → OnOk r Q
on_ok (Ok x) f p = f p
on_ok (Err e) f p = p

pub in_any_case : {A E P : Type 0} (r : Result A E) → P → OnOk r P
in_any_case (Ok x) p = p
in_any_case (Err e) p = tt
