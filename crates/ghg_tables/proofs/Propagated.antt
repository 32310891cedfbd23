-- The bracket of a total as it is printed.
use Rattle.std.proofs.Common.{◌≡◌, ℕ, Bool, true, false, if◌then◌else◌, List, codes, refl, sym, ap, ap₂, ◌∙◌, arith, pos, unsigned_abs}
use Rattle.std.proofs.lemmas.Bool.{eq-eqb, ne_eqb}
use Rattle.ghg_uncertainty.proofs.Rounded.{some_magnitude}
use Rattle.ghg_interval.specs.Rounding.{ceil_by, floor_by}
use Rattle.ghg_uncertainty.specs.declared.Share.{Share}
use Rattle.ghg_uncertainty.specs.declared.TotalUncertainty.TheVariants.{Bracket, Undefined}
use Rattle.ghg_uncertainty.specs.Totals.{IsTotal, net, spread}
use Rattle.ghg_uncertainty.proofs.RootBounds.{roots_are}
use Rattle.ghg_uncertainty.specs.Brackets.{high_root, low_root}
use Rattle.ghg_tables.specs.Analyses.{bounds_text, bracket_text, total_bracket}

pub bracket_is : (shares : List Share) (low high : ℕ) (lacks : Bool) → lacks ≡ false → IsTotal shares (Bracket low high) → bounds_text (pos low) (pos high) ≡ total_bracket lacks shares
unfolding total_bracket
bracket_is shares low high true e is = absurd (cc)
bracket_is shares low high false e is =
    let size : ℕ = unsigned_abs (net shares) in
    let roots = roots_are (spread shares) is.1.root_low is.1.root_high is.1.root in
    let down : pos low ≡ floor_by size (pos (low_root (spread shares))) = is.1.low_is ∙ ap (λ (n : ℕ). floor_by size (pos n)) roots.0 in
    let up : pos high ≡ ceil_by size (pos (high_root (spread shares))) = is.1.high_is ∙ ap (λ (n : ℕ). ceil_by size (pos n)) roots.1 in
    ap₂ bounds_text down up
    ∙ sym (ap (λ b. if b then codes "-,-" else bracket_text shares) (ne_eqb size 0 (λ e. omega (arith, some_magnitude (net shares) is.0, e))))

pub no_total : (lacks : Bool) (shares : List Share) → IsTotal shares Undefined → codes "-,-" ≡ total_bracket lacks shares
unfolding total_bracket
no_total true shares is = refl
no_total false shares is = sym (ap (λ b. if b then codes "-,-" else bracket_text shares) (eq-eqb (unsigned_abs (net shares)) 0 (ap unsigned_abs is)))

pub no_records : (lacks : Bool) (shares : List Share) → lacks ≡ true → codes "-,-" ≡ total_bracket lacks shares
unfolding total_bracket
no_records true shares e = refl
no_records false shares e = absurd (cc)
