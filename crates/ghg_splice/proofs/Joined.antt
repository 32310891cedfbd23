-- Parts read or written one after another, as loops do.
use Rattle.std.proofs.Common.{◌≡◌, ◌∙◌, ◌<◌, ◌≤◌, ◌+◌, ℕ, suc, List, [], ◌∷◌, ◌++◌, length, drop, get_or, Result, Ok, Err, refl, sym, ap, add-one, append_assoc}
use Rattle.std.proofs.lemmas.List.{append-nil, drop_all}
use Rattle.std.proofs.Math.Seq.{drop-cons}
use Rattle.ghg_splice.specs.declared.fills.Fill.{Fill}
use Rattle.ghg_splice.specs.declared.quantity.Quantity.{Quantity}
use Rattle.ghg_splice.specs.declared.refusal.SpliceRefusal.{SpliceRefusal}
use Rattle.ghg_splice.specs.declared.refusal.Stop.{Stop}
use Rattle.ghg_splice.specs.declared.refusal.Stop.TheVariants.{Refusal, Memory}
use Rattle.ghg_splice.specs.declared.text.Heading.{Heading}
use Rattle.ghg_splice.specs.Refusals.{Fails, joined}
use Rattle.ghg_splice.specs.Texts.{line_in, lines_in}

-- what a list has from a place on
pub split_at : {X : Type 0} (xs : List X) (i : ℕ) (x : X) → i < length xs → x ≡ get_or xs i x → drop i xs ≡ x ∷ drop (i + 1) xs
split_at xs i x small is = rw (add-one i) (drop-cons xs i x small ∙ ap (λ y. y ∷ drop (suc i) xs) (sym is))

joined_more : {X : Type 0} (front part : List X) (later : Result (List X) SpliceRefusal) → joined (Ok front) (joined (Ok part) later) ≡ joined (Ok (front ++ part)) later
joined_more front part (Ok back) = ap Ok (sym (append_assoc front part back))
joined_more front part (Err refusal) = refl

-- a part more
pub goes_on : {X : Type 0} (front text new : List X) (part later total : Result (List X) SpliceRefusal) → part ≡ Ok text → new ≡ front ++ text
    → joined (Ok front) (joined part later) ≡ total → joined (Ok new) later ≡ total
goes_on front text new part later total is longer so_far = rw longer (sym (joined_more front text later) ∙ (rw is at so_far))

-- a part that is refused
pub stops : {X : Type 0} (front : List X) (part later total : Result (List X) SpliceRefusal) (stop : Stop) → Fails stop part
    → joined (Ok front) (joined part later) ≡ total → Fails stop total
stops front part later total (Refusal refusal) is so_far = sym (rw is at so_far)
stops front part later total Memory is so_far = tt

-- the end of the parts
pub is_done : {X : Type 0} (front : List X) (total : Result (List X) SpliceRefusal) → joined (Ok front) (Ok []) ≡ total → total ≡ Ok front
is_done front total so_far = sym so_far ∙ ap Ok (append-nil front)

pub lines_at : (h : Heading) (fills : List (Fill Quantity)) (i : ℕ) (fill : Fill Quantity) → i < length fills → fill ≡ get_or fills i fill
    → lines_in h (drop i fills) ≡ joined (line_in h fill.year fill.value) (lines_in h (drop (i + 1) fills))
unfolding lines_in
lines_at h fills i fill small is = rw (split_at fills i fill small is) refl

pub no_lines : (h : Heading) (fills : List (Fill Quantity)) (i : ℕ) → length fills ≤ i → lines_in h (drop i fills) ≡ Ok []
unfolding lines_in
no_lines h fills i past = rw (drop_all i fills past) refl
