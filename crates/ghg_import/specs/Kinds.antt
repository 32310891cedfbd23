-- The words that choose how the other columns of a row are read.
use Rattle.std.specs.Prelude.{ℕ, List, Option, Some, None, if◌then◌else◌, codes}
use Rattle.std.specs.Str.{bytes_eq}
use Rattle.ghg_import.specs.declared.kind.BindingForm.{BindingForm}
use Rattle.ghg_import.specs.declared.kind.BindingForm.TheVariants as targets
use Rattle.ghg_import.specs.declared.kind.Kind.{Kind}
use Rattle.ghg_import.specs.declared.kind.Kind.TheVariants as kinds

-- the kind that a word names
abbrev pub kind_in : List ℕ → Option Kind
kind_in text =
    if bytes_eq text (codes "span") then Some kinds.Span
    else if bytes_eq text (codes "activity") then Some kinds.Activity
    else if bytes_eq text (codes "factor") then Some kinds.Factor
    else if bytes_eq text (codes "line") then Some kinds.Line
    else if bytes_eq text (codes "bind") then Some kinds.Bind
    else if bytes_eq text (codes "uncert") then Some kinds.Uncert
    else None

-- the form of a binding that a word names
abbrev pub binding_form_in : List ℕ → Option BindingForm
binding_form_in text =
    if bytes_eq text (codes "activity") then Some targets.Activity
    else if bytes_eq text (codes "factor") then Some targets.Factor
    else if bytes_eq text (codes "line") then Some targets.Line
    else if bytes_eq text (codes "prev") then Some targets.Prev
    else if bytes_eq text (codes "sum") then Some targets.Sum
    else if bytes_eq text (codes "decay") then Some targets.Decay
    else if bytes_eq text (codes "key") then Some targets.Key
    else None
