-- Which route a path finds: a walk over rows, forwards.
use Rattle.std.proofs.Common.{◌≡◌, ℕ, Bool, true, false, cond, zero, suc, ◌+◌, ◌-◌, ◌<◌, List, [], ◌∷◌, ◌++◌, length, drop, Option, Some, None, refl, sym, ap, ap₂, ◌∙◌, arith, append_assoc, length-append}
use Rattle.std.specs.Prelude.{◌==◌, not, nat_lt}
use Rattle.std.specs.List.{list_all, prefix_len}
use Rattle.std.proofs.lemmas.Bool.Decides.{nat_tests}
use Rattle.std.proofs.Math.Seq.{take-append_seam, drop-append_seam}
use Rattle.matchit.specs.Rows.{RowsOf}
use Rattle.matchit.specs.Seek.{cuts, has_slash, longest_suffix, or_else, own, param_step, seek, segment, step, with_suffix}
use Rattle.ghg_http.specs.Laws.{is_segment_byte}
use Rattle.ghg_http.specs.Route.{is_slash, table, table_at}

-- ---- a walk over rows

cuts_slash : (xs : List ℕ) → 0 < length xs → cuts (xs ++ 47 ∷ []) (47 ∷ []) ≡ true
cuts_slash xs some =
    let longer : nat_lt 1 (length (xs ++ 47 ∷ [])) ≡ true = grind (arith, nat_tests, length-append xs (47 ∷ [])) in
    let at : length (xs ++ 47 ∷ []) - 1 ≡ length xs = omega (arith, length-append xs (47 ∷ [])) in
    rw (longer, at, drop-append_seam xs (47 ∷ [])) refl

module _ {K : Type 0} where
  or_none : (found : Option K) → or_else found None ≡ found
  or_none None = refl
  or_none (Some key) = refl

  -- without rows a parameter leads to none
  no_rows : (path : List ℕ) → (param_step {K = K} [] path).1 ≡ []
  unfolding param_step
  no_rows path = by (has_slash path)
    where
      by : (slash : Bool) → (cond {A = ℕ × RowsOf K} slash (0, []) (length path, [])).1 ≡ []
      by true = refl
      by false = refl

  -- and no route is found
  pub nothing : (skip : ℕ) (path : List ℕ) → seek {K = K} skip [] path ≡ None
  unfolding seek
  nothing zero [] = refl
  nothing (suc skip) [] = refl
  nothing (suc skip) (b ∷ path) = nothing skip path
  nothing zero (b ∷ path) =
      ap₂ or_else (nothing 0 path)
      (or_none _ ∙ ap (λ rs. seek {K = K} ((param_step {K = K} [] (b ∷ path)).0 - 1) rs path) (no_rows (b ∷ path))
      ∙ nothing ((param_step {K = K} [] (b ∷ path)).0 - 1) path)

  -- nor by a parameter
  pub no_parameter : (b : ℕ) (path : List ℕ)
      → seek {K = K} ((param_step {K = K} [] (b ∷ path)).0 - 1) (param_step {K = K} [] (b ∷ path)).1 path ≡ None
  no_parameter b path =
      ap (λ rs. seek {K = K} ((param_step {K = K} [] (b ∷ path)).0 - 1) rs path) (no_rows (b ∷ path))
      ∙ nothing ((param_step {K = K} [] (b ∷ path)).0 - 1) path

  -- where all of a path is skipped, the route that ends there is found
  pub skipped : (rs : RowsOf K) (path : List ℕ) → seek (length path) rs path ≡ own rs
  unfolding seek
  skipped rs [] = refl
  skipped rs (b ∷ path) = skipped rs path

  -- a route goes on at a byte that it has
  pub at_byte : (x : ℕ) (t : List ℕ) (key : K) (path : List ℕ) → nat_lt x 256 ≡ true
      → seek 0 ((x ∷ t, key) ∷ []) (x ∷ path) ≡ seek 0 ((t, key) ∷ []) path
  unfolding seek
  at_byte x t key path e =
      let same : (x == x) ≡ true = grind (arith, nat_tests) in
      let no_parameter_token : (x == 256) ≡ false = grind (arith, nat_tests, e) in
      let no_rest_token : (x == 257) ≡ false = grind (arith, nat_tests, e) in
      rw (same, no_parameter_token, no_rest_token, no_parameter x path) (or_none _)

  pub literals : (w t : List ℕ) (key : K) (path : List ℕ) → list_all (λ x. nat_lt x 256) w ≡ true
      → seek 0 ((w ++ t, key) ∷ []) (w ++ path) ≡ seek 0 ((t, key) ∷ []) path
  literals [] t key path e = refl
  literals (x ∷ w) t key path e =
      let first : nat_lt x 256 ≡ true = grind (arith, e) in
      let others : list_all (λ x. nat_lt x 256) w ≡ true = grind (arith, e) in
      at_byte x (w ++ t) key (w ++ path) first ∙ literals w t key path others

  -- and at a parameter, if it has that, where the path has another byte
  pub at_parameter : (b : ℕ) (t : List ℕ) (key : K) (path : List ℕ) → nat_lt b 256 ≡ true
      → seek 0 ((256 ∷ t, key) ∷ []) (b ∷ path)
      ≡ seek ((param_step ((t, key) ∷ []) (b ∷ path)).0 - 1) (param_step ((t, key) ∷ []) (b ∷ path)).1 path
  unfolding seek
  at_parameter b t key path e =
      let other : (256 == b) ≡ false = grind (arith, nat_tests, e) in
      rw (other, nothing 0 path) (or_none _)

  -- the last parameter takes all of a path without a slash
  last_step : (b : ℕ) (key : K) (path : List ℕ) → has_slash (b ∷ path) ≡ false
      → param_step (([], key) ∷ []) (b ∷ path) ≡ (length (b ∷ path), ([], key) ∷ [])
  unfolding param_step
  last_step b key path e =
      ap (λ (slash : Bool). cond {A = ℕ × RowsOf K} slash (0, []) (length (b ∷ path), ([], key) ∷ [])) e

  pub at_end : (b : ℕ) (key : K) (path : List ℕ) → nat_lt b 256 ≡ true → has_slash (b ∷ path) ≡ false
      → seek 0 ((256 ∷ [], key) ∷ []) (b ∷ path) ≡ Some key
  at_end b key path small e =
      at_parameter b [] key path small
      ∙ ap (λ (p : ℕ × RowsOf K). seek (p.0 - 1) p.1 path) (last_step b key path e)
      ∙ ap (λ (n : ℕ). seek n (([], key) ∷ []) path) (omega arith)
      ∙ skipped (([], key) ∷ []) path

  -- any other takes what stands before the next slash
  skipped_to : (rs : RowsOf K) (xs ys : List ℕ) → seek (length xs) rs (xs ++ ys) ≡ seek 0 rs ys
  unfolding seek
  skipped_to rs [] ys = refl
  skipped_to rs (x ∷ xs) ys = skipped_to rs xs ys

  suffix_of : (seg t : List ℕ) (key : K) → cuts seg (47 ∷ []) ≡ true → longest_suffix seg ((47 ∷ t, key) ∷ []) ≡ 47 ∷ []
  suffix_of seg t key e = rw e refl

  next_step : (t : List ℕ) (key : K) (xs rest : List ℕ) → 0 < length xs → segment (xs ++ 47 ∷ rest) ≡ xs ++ 47 ∷ []
      → param_step ((47 ∷ t, key) ∷ []) (xs ++ 47 ∷ rest) ≡ (length xs, (47 ∷ t, key) ∷ [])
  unfolding param_step
  next_step t key xs rest some e =
      let rs : RowsOf K = (47 ∷ t, key) ∷ [] in
      let path : List ℕ = xs ++ 47 ∷ rest in
      let else_all : ℕ × RowsOf K = cond {A = ℕ × RowsOf K} (has_slash path) (0, []) (length path, rs) in
      let cut : List ℕ → List ℕ → ℕ × RowsOf K = λ seg suffix.
      cond {A = ℕ × RowsOf K} (nat_lt 0 (length suffix)) (length seg - length suffix, with_suffix suffix rs) else_all in
      ap (λ (seg : List ℕ). cut seg (longest_suffix seg rs)) e
      ∙ ap (cut (xs ++ 47 ∷ [])) (suffix_of (xs ++ 47 ∷ []) t key (cuts_slash xs some))
      ∙ ap (λ (n : ℕ). (n, rs)) (omega (arith, length-append xs (47 ∷ [])))

  pub at_next : (b : ℕ) (t : List ℕ) (key : K) (xs rest : List ℕ) → nat_lt b 256 ≡ true
      → segment ((b ∷ xs) ++ 47 ∷ rest) ≡ (b ∷ xs) ++ 47 ∷ []
      → seek 0 ((256 ∷ 47 ∷ t, key) ∷ []) ((b ∷ xs) ++ 47 ∷ rest) ≡ seek 0 ((t, key) ∷ []) rest
  at_next b t key xs rest small e =
      let some : 0 < length (b ∷ xs) = omega arith in
      at_parameter b (47 ∷ t) key (xs ++ 47 ∷ rest) small
      ∙ ap (λ (p : ℕ × RowsOf K). seek (p.0 - 1) p.1 (xs ++ 47 ∷ rest)) (next_step t key (b ∷ xs) rest some e)
      ∙ ap (λ (n : ℕ). seek n ((47 ∷ t, key) ∷ []) (xs ++ 47 ∷ rest)) (omega arith)
      ∙ skipped_to ((47 ∷ t, key) ∷ []) xs (47 ∷ rest)
      ∙ at_byte 47 t key rest refl

  -- where no row has a parameter here
  pub at_literal : (rs : RowsOf K) (b : ℕ) (path : List ℕ) → step 256 rs ≡ [] → own (step 257 rs) ≡ None
      → seek 0 rs (b ∷ path) ≡ seek 0 (step b rs) path
  unfolding seek
  at_literal rs b path p c = rw (p, c, no_parameter b path) (or_none _)

-- ---- segments

pub no_slash : (xs : List ℕ) → list_all is_segment_byte xs ≡ true → has_slash xs ≡ false
no_slash [] e = refl
no_slash (x ∷ xs) e =
    let first : (x == 47) ≡ false = grind (arith, nat_tests, e) in
    let others : list_all is_segment_byte xs ≡ true = grind (arith, e) in
    rw first (no_slash xs others)

pub segment_before : (xs rest : List ℕ) → has_slash xs ≡ false → segment (xs ++ 47 ∷ rest) ≡ xs ++ 47 ∷ []
segment_before [] rest e = refl
segment_before (x ∷ xs) rest e = by (x == 47) refl (segment_before xs rest)
  where
    by : (same : Bool) → (x == 47) ≡ same → (has_slash xs ≡ false → segment (xs ++ 47 ∷ rest) ≡ xs ++ 47 ∷ [])
        → segment ((x ∷ xs) ++ 47 ∷ rest) ≡ (x ∷ xs) ++ 47 ∷ []
    by true s others = let slash = rw s at e in absurd cc
    by false s others =
        let plain : has_slash xs ≡ false = rw s at e in
        rw s (ap (λ (t : List ℕ). x ∷ t) (others plain))

-- how far a test holds
holds_to : (test : ℕ → Bool) (xs ys : List ℕ) → list_all test xs ≡ true → prefix_len test ys ≡ 0
    → prefix_len test (xs ++ ys) ≡ length xs
holds_to test [] ys e stop = stop
holds_to test (x ∷ xs) ys e stop =
    let first : test x ≡ true = grind (arith, e) in
    let others : list_all test xs ≡ true = grind (arith, e) in
    let rest = holds_to test xs ys others stop in
    rw first (omega (arith, rest))

no_slashes : (xs : List ℕ) → list_all is_segment_byte xs ≡ true → list_all (λ b. not (is_slash b)) xs ≡ true
no_slashes [] e = refl
no_slashes (x ∷ xs) e =
    let first : (x == 47) ≡ false = grind (arith, nat_tests, e) in
    let others : list_all is_segment_byte xs ≡ true = grind (arith, e) in
    rw first (no_slashes xs others)

-- what stands before and behind the first slash
pub parts_at : (name year : List ℕ) → list_all is_segment_byte name ≡ true → table_at (name ++ 47 ∷ year) ≡ Some (table name year)
parts_at name year e =
    let at = holds_to (λ b. not (is_slash b)) name (47 ∷ year) (no_slashes name e) refl in
    let within : nat_lt (length name) (length (name ++ 47 ∷ year)) ≡ true = grind (arith, nat_tests, length-append name (47 ∷ year)) in
    let behind : drop (length name + 1) (name ++ 47 ∷ year) ≡ year =
    ap₂ drop (sym (length-append name (47 ∷ []))) (sym (append_assoc name (47 ∷ []) year)) ∙ drop-append_seam (name ++ 47 ∷ []) year in
    rw (at, within, take-append_seam name (47 ∷ year), behind) refl
