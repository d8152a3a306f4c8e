-- The bytes of an automaton's table are those of its lists.
use Rattle.std.proofs.Common.{◌≡◌, ℕ, zero, suc, ◌+◌, ◌*◌, ◌≤◌, ◌<◌, Bool, false, List, [], ◌∷◌, ◌++◌, map, length, take, drop, get_or, slice_index, refl, sym, ap, subst, ◌∙◌, append_assoc, arith}
use Rattle.std.specs.Int.{w32, to_be_bytes}
use Rattle.std.specs.List.{flat_map, range_with_len, AllByRecursion}
use Rattle.std.proofs.lemmas.List.{ext_get_or, get_or-take, get_or-drop, take-append-drop, drop_all, length-take, length-drop, drop-drop}
use Rattle.std.proofs.lemmas.List.Elements.{recursion_from_All}
use Rattle.std.proofs.lemmas.List.FromFn.{length-map-range_with_len, get_or-map-range_with_len}
use Rattle.auto_core.specs.Automaton.{Automaton, IsAutomaton, first_state, next_state, is_final, width}
use Rattle.strategy_file.specs.declared.version.Version.TheVariants as versions
use Rattle.strategy_file.specs.Tables.{table_with, table_of, table_layout}
use Rattle.strategy_writer.specs.Written.{row_bytes, state_bytes, table_bytes, flag_byte}
use Rattle.strategy_writer.proofs.Again.{Again, table_again, as_again}

flat_map_map : {X Y : Type 0} (g : Y → List ℕ) (f : X → Y) (xs : List X) → flat_map (λ x. g (f x)) xs ≡ flat_map g (map f xs)
flat_map_map g f [] = refl
flat_map_map g f (x ∷ xs) = ap (λ rest. g (f x) ++ rest) (flat_map_map g f xs)

flat_map_same : {X Y : Type 0} (f g : X → List Y) → ((x : X) → f x ≡ g x) → (xs : List X) → flat_map f xs ≡ flat_map g xs
flat_map_same f g same [] = refl
flat_map_same f g same (x ∷ xs) = rw (same x, flat_map_same f g same xs) refl

-- a list by its places
map_places : {X : Type 0} (list : List X) (d : X) (f : ℕ → X) (n : ℕ) → length list ≡ n → ((i : ℕ) → i < n → f i ≡ get_or list i d) → map f (range_with_len 0 n) ≡ list
map_places list d f n size same =
    let l = length-map-range_with_len f 0 n in
    ext_get_or d (map f (range_with_len 0 n)) list (l ∙ sym size) (λ i h.
    let below : i < n = omega (arith, l, h) in
    get_or-map-range_with_len f 0 n i i d below (omega arith) ∙ same i below)

-- rows one after another
chunks : (w : ℕ) (next : List ℕ) (b k : ℕ) → length next ≡ (b + k) * w
    → flat_map (λ s. map (λ l. slice_index next (s * w + l)) (range_with_len 0 w)) (range_with_len b k) ≡ drop (b * w) next
chunks w next b zero size = sym (drop_all (b * w) next (omega (arith, size)))
chunks w next b (suc k) size =
    let rest = chunks w next (b + 1) k (omega (arith, size)) in
    let row = drop (b * w) next in
    let long : w ≤ length row = let l = length-drop (b * w) next in omega (arith, l, size) in
    let t : length (take w row) ≡ w = let l = length-take w row in omega (arith, l, long) in
    let here : map (λ l. slice_index next (b * w + l)) (range_with_len 0 w) ≡ take w row =
    map_places (take w row) 0 (λ l. slice_index next (b * w + l)) w t (λ i h. sym (get_or-take w row i 0 h ∙ get_or-drop (b * w) next i 0)) in
    let later : drop ((b + 1) * w) next ≡ drop w row = (let e : (b + 1) * w ≡ b * w + w = omega arith in ap (λ n. drop n next) e) ∙ sym (drop-drop w (b * w) next) in
    rw (here, rest, later) (take-append-drop w row)

all_range : {X : Type 0} (P : X → Type 0) (f : ℕ → X) (n : ℕ) → ((i : ℕ) → i < n → P (f i)) → AllByRecursion P (map f (range_with_len 0 n))
all_range P f n each = recursion_from_All P (map f (range_with_len 0 n)) (λ i d h.
    let l = length-map-range_with_len f 0 n in
    let below : i < n = omega (arith, l, h) in
    rw (get_or-map-range_with_len f 0 n i i d below (omega arith)) (each i below))

module _ (a : Automaton) (valid : IsAutomaton a) where
  row : ℕ → List ℕ
  row s = map (next_state a s) (range_with_len 0 (width a))

  pair : ℕ → Bool × List ℕ
  unfolding row
  pair s = (is_final a s, row s)

  pairs : List (Bool × List ℕ)
  unfolding pair
  pairs = map pair (range_with_len 0 (length a.accept))

  first_is : map (first_state a) (range_with_len 0 (width a)) ≡ a.first
  first_is = map_places a.first 0 (first_state a) (width a) valid.first_size (λ i h. refl)

  row_bytes-is : (letters : ℕ) (f : ℕ → ℕ) → row_bytes letters f ≡ flat_map (to_be_bytes w32) (map f (range_with_len 0 letters))
  unfolding row_bytes
  row_bytes-is letters f = flat_map_map (to_be_bytes w32) f (range_with_len 0 letters)

  states_bytes : flat_map (state_bytes a) (range_with_len 0 (length a.accept)) ≡ flat_map (λ p. flag_byte p.0 ∷ flat_map (to_be_bytes w32) p.1) pairs
  unfolding pairs pair row state_bytes
  states_bytes =
      flat_map_same (state_bytes a) (λ s. flag_byte (is_final a s) ∷ flat_map (to_be_bytes w32) (map (next_state a s) (range_with_len 0 (width a))))
      (λ s. ap (λ bytes. flag_byte (is_final a s) ∷ bytes) (row_bytes-is (width a) (next_state a s))) (range_with_len 0 (length a.accept))
      ∙ flat_map_map (λ p. flag_byte p.0 ∷ flat_map (to_be_bytes w32) p.1) pair (range_with_len 0 (length a.accept))

  table_bytes-is : table_bytes a ≡ to_be_bytes w32 (length a.accept) ++ (flat_map (to_be_bytes w32) a.first ++ flat_map (λ p. flag_byte p.0 ∷ flat_map (to_be_bytes w32) p.1) pairs)
  unfolding table_bytes
  table_bytes-is =
      append_assoc (to_be_bytes w32 (length a.accept)) (row_bytes (width a) (first_state a)) (flat_map (state_bytes a) (range_with_len 0 (length a.accept)))
      ∙ rw (row_bytes-is (width a) (first_state a), first_is, states_bytes) refl

  flags_are : (ss : List ℕ) → map (λ p. p.0) (map pair ss) ≡ map (is_final a) ss
  unfolding pair
  flags_are [] = refl
  flags_are (s ∷ ss) = ap (λ rest. is_final a s ∷ rest) (flags_are ss)

  rows_are : (ss : List ℕ) → flat_map (λ p. p.1) (map pair ss) ≡ flat_map row ss
  unfolding pair
  rows_are [] = refl
  rows_are (s ∷ ss) = ap (λ rest. row s ++ rest) (rows_are ss)

  table_is : table_with a.first pairs ≡ table_of a
  unfolding pairs row
  table_is =
      let accept : map (is_final a) (range_with_len 0 (length a.accept)) ≡ a.accept = map_places a.accept false (is_final a) (length a.accept) refl (λ i h. refl) in
      let next = chunks (width a) a.next 0 (length a.accept) (let s = valid.next_size in omega (arith, s)) ∙ (let z : 0 * width a ≡ 0 = omega arith in ap (λ n. drop n a.next) z) in
      rw (flags_are (range_with_len 0 (length a.accept)), rows_are (range_with_len 0 (length a.accept)), accept, next) refl

  pub automaton_again : length a.accept ≤ 200000 → Again (table_layout versions.Dense (length a.tracks)) (table_bytes a) (table_of a)
  unfolding pairs pair row
  automaton_again few =
      let rows = all_range (λ p. (length p.1 ≡ width a) × AllByRecursion (λ s. s < length a.accept) p.1) pair (length a.accept)
      (λ s known. (
        length-map-range_with_len (next_state a s) 0 (width a),
        all_range (λ n. n < length a.accept) (next_state a s) (width a) (λ l h. valid.next_within (s * width a + l) 0 (inside s l known h)),
      )) in
      let again = table_again (length a.tracks) (length a.accept) a.first pairs valid.first_size valid.some_state few (length-map-range_with_len pair 0 (length a.accept))
      (recursion_from_All (λ s. s < length a.accept) a.first valid.first_within) rows in
      subst (λ t. Again (table_layout versions.Dense (length a.tracks)) (table_bytes a) t) table_is
      (as_again (table_layout versions.Dense (length a.tracks)) _ (table_bytes a) (table_with a.first pairs) (sym table_bytes-is) again)
    where
      inside : (s l : ℕ) → s < length a.accept → l < width a → s * width a + l < length a.next
      inside s l known h = let size = valid.next_size in grind (arith, size, known, h)
