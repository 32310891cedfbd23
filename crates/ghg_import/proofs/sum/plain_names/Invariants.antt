use Rattle.std.proofs.Common.{◌≡◌, ◌++◌, map, drop, is_some, true}
use Rattle.std.specs.List.{list_all}
use Rattle.ghg_units.specs.Name.{plain_name_in}
use Rattle.ghg_import.proofs.sum.plain_names.Given as goal

-- the names so far are plain, and the texts are these and those that are left
abbrev pub invariant-loop-part : goal.invariant-loop-part
invariant-loop-part l = record {
  plain : list_all (λ name. is_some (plain_name_in name)) l.names.items ≡ true;
  so_far : l.names.items ++ map (λ part. part.now) (drop l.part-index l.parts) ≡ map (λ part. part.now) l.parts;
}
