-- The brackets that a book keeps.
use Rattle.std.specs.Prelude.{ℕ, List, map}
use Rattle.ghg_data.specs.declared.brackets.Brackets.{Brackets}

-- of which half-lives they are
abbrev pub half_lives : Brackets → List ℕ
half_lives brackets = map (λ b. b.half_life) brackets.kept.items
