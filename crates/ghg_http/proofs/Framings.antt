-- The framing of fields depends on their names and values alone.
use Rattle.std.proofs.Common.{◌≡◌, ℕ, Bool, true, false, cond, ◌||◌, List, [], ◌∷◌, map, Option, Some, None, option_map, refl, ap, sym, ◌∙◌, codes}
use Rattle.std.specs.List.{list_any, find}
use Rattle.ghg_http.specs.Fields.{Parts, first_value, framing, is_named, is_other_length, is_coding, length_in, length_with}

module _ {X : Type 0} (parts : X → Parts) where
  any_parts : (test : Parts → Bool) (fields : List X) → list_any (λ f. test (parts f)) fields ≡ list_any test (map parts fields)
  any_parts test [] = refl
  any_parts test (f ∷ fields) = ap (λ rest. test (parts f) || rest) (any_parts test fields)

  first_or : (b : Bool) (f : X) (o : Option X) (p : Option Parts)
      → option_map (λ x. (parts x).1) o ≡ option_map (λ x. x.1) p
      → option_map (λ x. (parts x).1) (cond b (Some f) o) ≡ option_map (λ x. x.1) (cond b (Some (parts f)) p)
  first_or true f o p e = refl
  first_or false f o p e = e

  find_parts : (test : Parts → Bool) (fields : List X)
      → option_map (λ f. (parts f).1) (find (λ f. test (parts f)) fields) ≡ option_map (λ f. f.1) (find test (map parts fields))
  find_parts test [] = refl
  find_parts test (f ∷ fields) = first_or (test (parts f)) f _ _ (find_parts test fields)

  with_parts : (first : Option (List ℕ)) (fields : List X)
      → length_with parts first fields ≡ length_with (λ f. f) first (map parts fields)
  with_parts None fields = refl
  with_parts (Some first) fields = rw (any_parts (is_other_length first) fields) refl

  length_parts : (fields : List X) → length_in parts fields ≡ length_in (λ f. f) (map parts fields)
  length_parts fields =
      with_parts (first_value parts (codes "content-length") fields) fields
      ∙ ap (λ first. length_with (λ f. f) first (map parts fields)) (find_parts (is_named (codes "content-length")) fields)

  framing_parts : (fields : List X) → framing parts fields ≡ framing (λ f. f) (map parts fields)
  unfolding framing
  framing_parts fields =
      rw (any_parts (is_named (codes "transfer-encoding")) fields, any_parts is_coding fields, length_parts fields) refl

pub framing_same : {X Y : Type 0} (p : X → Parts) (q : Y → Parts) (xs : List X) (ys : List Y) → map p xs ≡ map q ys
    → framing p xs ≡ framing q ys
framing_same p q xs ys e = framing_parts p xs ∙ ap (framing (λ f. f)) e ∙ sym (framing_parts q ys)
