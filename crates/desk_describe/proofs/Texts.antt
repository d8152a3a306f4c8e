-- Texts parted by commas, and the rests whose bits are set.
use Rattle.std.proofs.Common.{◌≡◌, ◌≢◌, ℕ, ◌+◌, ◌-◌, ◌/◌, ◌%◌, ◌^◌, ◌≤◌, ◌==◌, List, [], ◌∷◌, ◌++◌, length, take, drop, get_or, cond, sym, ap, ◌∙◌, arith}
use Rattle.std.specs.Prelude.{codes}
use Rattle.std.specs.Int.{bit_at}
use Rattle.std.specs.List.{filter, flat_map, range_with_len}
use Rattle.std.proofs.lemmas.List.{append-nil, map-id, take_all, take_rest}
use Rattle.std.proofs.lemmas.List.FromFn.{filter_of_map_range_with_len_more}
use Rattle.std.proofs.lemmas.Nat.{shr-shr}
use Rattle.desk_describe.specs.Description.{listed, rests_in}

-- the first text, and each further one behind a comma
pub listed_is : {A : Type 0} (text : A → List ℕ) (xs : List A) (k : ℕ) (d : A) → 1 ≤ length xs → length (take (length xs - 1) (drop 1 xs)) ≤ k
    → text (get_or xs 0 d) ++ flat_map (λ x. codes "," ++ text x) (take k (take (length xs - 1) (drop 1 xs))) ≡ listed text xs
listed_is text [] k d some all = absurd (omega arith)
listed_is {A} text (x ∷ xs) k d some all =
    let rest : take (length (x ∷ xs) - 1) (drop 1 (x ∷ xs)) ≡ xs = take_rest (x ∷ xs) 1 in
    let long = ap (λ (ys : List A). length ys) rest in
    ap (λ ys. text x ++ flat_map (λ y. codes "," ++ text y) (take k ys)) rest
    ∙ ap (λ ys. text x ++ flat_map (λ y. codes "," ++ text y) ys) (take_all k xs (omega (arith, long, all)))

-- one rest more
rests_more : (rests k : ℕ) → rests_in rests (k + 1) ≡ rests_in rests k ++ cond (bit_at rests k == 1) (k ∷ []) []
rests_more rests k =
    let is_in = λ (rest : ℕ). bit_at rests rest == 1 in
    ap (filter is_in) (sym (map-id (range_with_len 0 (k + 1)))) ∙ filter_of_map_range_with_len_more is_in (λ rest. rest) 0 k k (omega arith)
    ∙ ap (λ front. filter is_in front ++ cond (is_in k) (k ∷ []) []) (map-id (range_with_len 0 k))

module _ (rests k bits : ℕ) (shifted : bits ≡ rests / 2 ^ k) where
  pub halved : bits / 2 ≡ rests / 2 ^ (k + 1)
  halved = ap (λ b. b / 2) shifted ∙ shr-shr rests k 1

  pub rest_is_in : bits % 2 ≡ 1 → rests_in rests k ++ k ∷ [] ≡ rests_in rests (k + 1)
  rest_is_in odd =
      let same : bit_at rests k ≡ 1 = ap (λ b. b % 2) (sym shifted) ∙ odd in
      sym (rests_more rests k ∙ ap (λ b. rests_in rests k ++ cond (b == 1) (k ∷ []) []) same)

  pub rest_is_out : bits % 2 ≢ 1 → rests_in rests k ≡ rests_in rests (k + 1)
  rest_is_out not =
      let even : bits % 2 ≡ 0 = omega (arith, not) in
      let same : bit_at rests k ≡ 0 = ap (λ b. b % 2) (sym shifted) ∙ even in
      sym (rests_more rests k ∙ ap (λ b. rests_in rests k ++ cond (b == 1) (k ∷ []) []) same ∙ append-nil (rests_in rests k))
