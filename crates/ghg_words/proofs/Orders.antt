-- Options in another order, or spelled otherwise, give the same.
use Rattle.std.proofs.Common.{◌≡◌, ℕ, Bool, true, false, List, [], ◌∷◌, ◌++◌, ◌+◌, ◌&&◌, length, map, drop, not, Option, Some, None, codes, refl, sym, ap, ◌∙◌, arith, is_none, cond, suc, ◌||◌}
use Rattle.std.specs.Prelude.{option_and_then, if◌then◌else◌}
use Rattle.std.specs.List.{flat_map, list_any, position_or_len}
use Rattle.std.specs.Str.{bytes_eq}
use Rattle.std.proofs.lemmas.List.{append_assoc, drop_at, length_push}
use Rattle.std.proofs.lemmas.Cmp.{nat_list_eq_equiv}
use Rattle.std.proofs.lemmas.Grind.{common_steps}
use Rattle.ghg_words.specs.Command.{command_in, command_named, compile_of, generate_of, number_from, options_of_compile, options_of_generate, options_of_review, options_of_serve, options_of_splice, review_of, serve_of, splice_of}
use Rattle.ghg_words.specs.declared.command.Command.{Command}
use Rattle.ghg_words.specs.Laws.{IsReordered, OptionsStandInAnyOrder, Spelled, option_of, words_of}
use Rattle.ghg_words.specs.Laws.IsReordered.{unchanged, behind, exchanged, in_turn}
use Rattle.ghg_words.specs.Options.{Options, are_named, is_among, is_equals, leading, only, option_word, if_all, value_of, with_first}
use Rattle.ghg_words.proofs.Steps.{leading_end, leading_one, leading_two}
use Rattle.ghg_words.proofs.Words.{name_and_value_none, name_and_value_there}

-- ---- the words of an option

ends_later : (here later : Bool) (m n : ℕ) → (here || later) ≡ false → (later ≡ false → m ≡ n)
    → cond (not here) (1 + m) 0 ≡ suc n
ends_later true later m n plain e = absurd (cc)
ends_later false later m n plain e = let k = e plain in omega arith

-- a name ends at the first equals sign after it
ends : (name : List ℕ) → list_any is_equals name ≡ false → position_or_len is_equals name ≡ length name
ends [] plain = refl
ends (b ∷ name) plain = ends_later (is_equals b) _ _ _ plain (ends name)

ends_there : (name value : List ℕ) → list_any is_equals name ≡ false
    → position_or_len is_equals (name ++ 61 ∷ value) ≡ length name
ends_there [] value plain = refl
ends_there (b ∷ name) value plain = ends_later (is_equals b) _ _ _ plain (ends_there name value)

after : (name value : List ℕ) → drop (length name + 1) (name ++ 61 ∷ value) ≡ value
after name value =
    ap (drop (length name + 1)) (sym (append_assoc name (61 ∷ []) value))
    ∙ drop_at (name ++ 61 ∷ []) value (length name + 1) (length_push name 61)

alone : (name : List ℕ) → list_any is_equals name ≡ false → option_word (codes "--" ++ name) ≡ Some (name, None)
unfolding option_word
alone name plain = ap Some (name_and_value_none name (ends name plain))

joined : (name value : List ℕ) → list_any is_equals name ≡ false
    → option_word (codes "--" ++ (name ++ 61 ∷ value)) ≡ Some (name, Some value)
unfolding option_word
joined name value plain =
    let e = ends_there name value plain in
    ap Some (name_and_value_there (name ++ 61 ∷ value) name value
    (rw e (grind (arith, common_steps))) (rw e (sym (after name value))) (rw e (grind (arith, common_steps))))

words_lead : (s : Spelled) (rest : List (List ℕ))
    → leading (words_of s ++ rest) ≡ with_first (option_of s) (leading rest)
words_lead s rest = by_spelling s.is_one_word
  where
    by_spelling : (one : Bool) → leading (words_of (record s { is_one_word = one }) ++ rest)
        ≡ with_first (option_of s) (leading rest)
    by_spelling true = leading_one _ s.name s.value rest (joined s.name s.value s.plain)
    by_spelling false = leading_two _ s.name s.value rest (alone s.name s.plain)

all_lead : (xs : List Spelled) → leading (flat_map words_of xs) ≡ (map option_of xs, [])
all_lead [] = leading_end
all_lead (x ∷ xs) = words_lead x (flat_map words_of xs) ∙ ap (with_first (option_of x)) (all_lead xs)

-- ---- the order of options

-- each name has the same value
abbrev HaveSameValues : Options → Options → Type 0
HaveSameValues xs ys = (name : List ℕ) → value_of name xs ≡ value_of name ys

-- the same names stand there, and where each stands once, it has the same value
record IsSame (xs ys : Options) : Type 0 where
  names : (names : List (List ℕ)) → are_named names xs ≡ are_named names ys
  values : (names : List (List ℕ)) → are_named names xs ≡ true → HaveSameValues xs ys

-- an option in front
none_named : (known first : Bool) → (known && first && false) ≡ false
none_named true true = refl
none_named true false = refl
none_named false first = refl

in_front : (known first other rest others : Bool) → rest ≡ others → (rest ≡ true → first ≡ other)
    → (known && first && rest) ≡ (known && other && others)
in_front known first other true true e f = rw (f refl) refl
in_front known first other true false e f = absurd (cc)
in_front known first other false true e f = absurd (cc)
in_front known first other false false e f = none_named known first ∙ sym (none_named known other)

rest_named : (known first rest : Bool) → (known && first && rest) ≡ true → rest ≡ true
rest_named true true rest e = e
rest_named true false rest e = absurd (cc)
rest_named false first rest e = absurd (cc)

-- two options in front, which exchange their places
exchange : (a b m n r : Bool) → (a && m && (b && n && r)) ≡ (b && n && (a && m && r))
exchange false b m n r = sym (none_named b n)
exchange true b false n r = sym (none_named b n)
exchange true false true n r = refl
exchange true true true false r = refl
exchange true true true true r = refl

exchange_names : (equal a b : Bool) (u v : Option (List ℕ)) (s t : List ℕ) (r : Bool)
    → (a && is_none (if equal then Some t else u) && (b && is_none v && r))
    ≡ (b && is_none (if equal then Some s else v) && (a && is_none u && r))
exchange_names false a b u v s t r = exchange a b (is_none u) (is_none v) r
exchange_names true true true u v s t r = refl
exchange_names true true false u v s t r = refl
exchange_names true false true u v s t r = refl
exchange_names true false false u v s t r = refl

exchange_values : (p q : Bool) (s t : List ℕ) (v : Option (List ℕ)) → (p ≡ true → q ≡ true → ⊥)
    → (if p then Some s else (if q then Some t else v)) ≡ (if q then Some t else (if p then Some s else v))
exchange_values true true s t v never = absurd (never refl refl)
exchange_values true false s t v never = refl
exchange_values false true s t v never = refl
exchange_values false false s t v never = refl

differ : (known equal : Bool) (t : List ℕ) (u : Option (List ℕ)) (rest : Bool)
    → (known && is_none (if equal then Some t else u) && rest) ≡ true → equal ≡ true → ⊥
differ known false t u rest e same = cc
differ true true t u rest e same = cc
differ false true t u rest e same = cc

both_equal : (s t name : List ℕ) → bytes_eq s name ≡ true → bytes_eq t name ≡ true → bytes_eq t s ≡ true
both_equal s t name e f = nat_list_eq_equiv.congr t name s f ∙ nat_list_eq_equiv.symm name s ∙ e

same : (xs ys : Options) → IsReordered xs ys → IsSame xs ys
unfolding are_named value_of
same xs ys (unchanged zs) = record { names = λ n. refl; values = λ n e name. refl }
same xs ys (behind x us vs h) =
    let r = same us vs h in
    record {
      names = λ n. in_front (is_among x.0 n) _ _ _ _ (r.names n) (λ e. ap is_none (r.values n e x.0));
      values = λ n e name. ap (λ v. if bytes_eq x.0 name then Some x.1 else v)
          (r.values n (rest_named (is_among x.0 n) (is_none (value_of x.0 us)) _ e) name);
    }
same xs ys (exchanged x y zs) = record {
  names = λ n.
      exchange_names (bytes_eq y.0 x.0) (is_among x.0 n) (is_among y.0 n) (value_of x.0 zs) (value_of y.0 zs) x.1 y.1 _
      ∙ ap (λ e. is_among y.0 n && is_none (if e then Some x.1 else value_of y.0 zs)
      && (is_among x.0 n && is_none (value_of x.0 zs) && are_named n zs)) (nat_list_eq_equiv.symm y.0 x.0);
  values = λ n e name. exchange_values (bytes_eq x.0 name) (bytes_eq y.0 name) x.1 y.1 _
      (λ p q. differ (is_among x.0 n) (bytes_eq y.0 x.0) y.1 (value_of x.0 zs) _ e (both_equal x.0 y.0 name p q));
}
same xs ys (in_turn us vs ws h k) =
    let r = same us vs h in
    let t = same vs ws k in
    record {
      names = λ n. r.names n ∙ t.names n;
      values = λ n e name. r.values n e name ∙ t.values n (sym (r.names n) ∙ e) name;
    }

-- a command looks at the names, and then at the values
named_same : (names : List (List ℕ)) (xs ys : Options) (f : Options → Option Command) → IsSame xs ys
    → (HaveSameValues xs ys → f xs ≡ f ys)
    → option_and_then f (only names xs) ≡ option_and_then f (only names ys)
unfolding only
named_same names xs ys f h e =
    rw (← h.names names) (by_names (are_named names xs) (λ named. e (h.values names named)))
  where
    by_names : (b : Bool) → (b ≡ true → f xs ≡ f ys)
        → option_and_then f (if b then Some xs else None) ≡ option_and_then f (if b then Some ys else None)
    by_names true k = k refl
    by_names false k = refl

compile_same : (xs ys : Options) → HaveSameValues xs ys → compile_of xs ≡ compile_of ys
compile_same xs ys e = simp e

serve_same : (xs ys : Options) → HaveSameValues xs ys → serve_of xs ≡ serve_of ys
unfolding number_from
serve_same xs ys e = simp e

generate_same : (xs ys : Options) → HaveSameValues xs ys → generate_of xs ≡ generate_of ys
unfolding number_from
generate_same xs ys e = simp e

splice_same : (xs ys : Options) → HaveSameValues xs ys → splice_of xs ≡ splice_of ys
splice_same xs ys e = simp e

review_same : (xs ys : Options) → HaveSameValues xs ys → review_of xs ≡ review_of ys
review_same xs ys e = simp e

same_command : (word : List ℕ) (xs ys : Options) → IsSame xs ys → command_named word xs ≡ command_named word ys
unfolding options_of_compile options_of_generate options_of_review options_of_serve options_of_splice
same_command word xs ys h =
    cc (
      named_same _ xs ys compile_of h (compile_same xs ys),
      named_same _ xs ys serve_of h (serve_same xs ys),
      named_same _ xs ys generate_of h (generate_same xs ys),
      named_same _ xs ys splice_of h (splice_same xs ys),
      named_same _ xs ys review_of h (review_same xs ys),
    )

pub any_order : OptionsStandInAnyOrder
unfolding command_in
any_order word xs ys h =
    let command = λ (read : Options × List (List ℕ)). option_and_then (command_named word) (if_all read) in
    ap command (all_lead xs) ∙ same_command word _ _ (same _ _ h) ∙ sym (ap command (all_lead ys))
