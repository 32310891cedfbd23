-- Names in order, each once.
use Rattle.std.specs.Prelude.{Bool, true, false, List, [], ◌∷◌, filter, not}
use Rattle.std.specs.Ordering.{eq_by_cmp}
use Rattle.std.specs.declared.cmp.Ordering.{Ordering}
use Rattle.std.specs.declared.cmp.Ordering.TheVariants.{Less, Equal, Greater}
use Rattle.ghg_definitions.specs.declared.record.RecordKey.{RecordKey}
use Rattle.ghg_definitions.specs.declared.record.RecordKey.TheVariants as key
use Rattle.ghg_definitions.specs.Data.{Name, name_cmp}

-- the names with x before them, x at their head, or more behind x, as the order says
abbrev pub placed : Ordering → Name → Name → List Name → List Name → List Name
placed Less name x xs more = name ∷ x ∷ xs
placed Equal name x xs more = x ∷ xs
placed Greater name x xs more = x ∷ more

-- the names with this one in its place
abbrev pub with_name : Name → List Name → List Name
with_name name [] = name ∷ []
with_name name (x ∷ xs) = placed (name_cmp name x) name x xs (with_name name xs)

-- the names without this one
abbrev pub without_name : Name → List Name → List Name
without_name name xs = filter (λ x. not (eq_by_cmp name_cmp name x)) xs

-- the names of the lines once the key has a record, or has none
abbrev pub names_after : RecordKey → Bool → List Name → List Name
names_after key.Span present xs = xs
names_after (key.Activity name year) present xs = xs
names_after (key.Factor name start) present xs = xs
names_after (key.Line name) true xs = with_name name xs
names_after (key.Line name) false xs = without_name name xs
names_after (key.Bind line parameter) present xs = xs
names_after (key.Uncert line) present xs = xs
