-- The places of categories, as the type declares them.
use denote.Enum.Declared.{tag_of}
use Rattle.std.specs.Prelude.{ℕ}
use Rattle.ghg_categories.specs.contracts.category.Category.{the_type}
use Rattle.ghg_categories.specs.declared.category.Category.{Category}

-- how many categories are declared before it
abbrev pub place_of : Category → ℕ
place_of c = tag_of the_type c
