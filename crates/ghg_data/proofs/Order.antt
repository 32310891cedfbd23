-- What is answered is in order.
use Rattle.std.proofs.Common.{◌≡◌, List, Result, Ok, Err, IfOk, sym, subst, ◌∙◌}
use Rattle.std.specs.List.Sorted.{IsStrictlySortedBy}
use Rattle.ghg_definitions.specs.Data.{Data, Name, line_names, name_cmp}
use Rattle.ghg_definitions.proofs.Lines.{lines_sorted}

pub in_order : {T E : Type 0} (names : T → List Name) (m : Data) (xs : List Name) (r : Result T E) → xs ≡ line_names m → IfOk r (λ v. names v ≡ xs) → IfOk r (λ v. IsStrictlySortedBy name_cmp (names v))
in_order names m xs (Ok v) e h = subst (IsStrictlySortedBy name_cmp) (sym (h ∙ e)) (lines_sorted m)
in_order names m xs (Err x) e h = h
