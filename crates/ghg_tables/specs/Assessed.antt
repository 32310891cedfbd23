-- The rows of assessments, as functions of what the assessment gives.
use Rattle.std.specs.Prelude.{ℕ, ◌≡◌, ◌+◌, ◌*◌, ◌≤◌, List, [], ◌∷◌, ◌++◌, pos}
use Rattle.ghg_keycat.specs.declared.KeyRow.{KeyRow}
use Rattle.ghg_keycat.specs.Ranking.{is_key}
use Rattle.ghg_keycat.specs.Sizes.{gross_limit}
use Rattle.ghg_tables.specs.Analyses.{pair_words, shares_text, trend_words}
use Rattle.ghg_tables.specs.Texts.{field, percent_text, tonnes_text}

-- the numbers of a row are within those of all, and it is key by the rule
pub record IsBounded (key : KeyRow) : Type 0 where
  pub whole : key.before + key.size ≤ key.total
  pub small : key.total ≤ 3 * gross_limit * gross_limit
  pub key_is : key.key ≡ is_key key.before key.total

unfoldable pub level_key_row : KeyRow → List ℕ
level_key_row key =
    pair_words key.pair ++ field (tonnes_text key.pair.now) ++
    shares_text key.total key.size key.before ++ 10 ∷ []

unfoldable pub trend_key_row : ℕ → KeyRow → List ℕ
trend_key_row denominator key =
    trend_words key.pair ++ field (percent_text denominator (pos key.size)) ++
    shares_text key.total key.size key.before ++ 10 ∷ []
