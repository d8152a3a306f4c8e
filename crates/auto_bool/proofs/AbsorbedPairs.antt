-- Walks over pairs of states with one pair for all in which one side decides for good.
use Rattle.std.proofs.Common.{◌≡◌, ◌≢◌, ◌⊎◌, ℕ, ◌<◌, Bool, true, false, true≢false, Option, Some, None, List, [], ◌∷◌, length, nat_eq, arith, refl, sym, ap, ◌∙◌, subst, inl, inr}
use Rattle.std.specs.List.{fold}
use Rattle.std.proofs.lemmas.Grind.{common_steps}
use Rattle.track_word.specs.declared.tracks.Var.{Var}
use Rattle.track_word.specs.Tracks.{restrict}
use Rattle.diagram_product.specs.declared.absorbing.Absorbing.{Absorbing}
use Rattle.diagram_product.specs.Absorbed.{absorbs, stand_in, absorbed}
use Rattle.diagram_product.proofs.Absorptions.{absorbed-left, absorbed-right, absorbed-neither, absorbed-nothing}
use Rattle.auto_core.specs.Automaton.{Automaton, IsAutomaton, first_state, next_state, is_final}
use Rattle.auto_core.proofs.States.{entry_within}
use Rattle.auto_core.proofs.Restricted.{restrict-below}
use Rattle.auto_walk.specs.Walker.{place_of}
use Rattle.auto_bool.specs.declared.connective.Connective.{Connective}
use Rattle.auto_bool.specs.declared.connective.Connective.TheVariants.{And, Or, AndNot}
use Rattle.auto_bool.specs.Both.{combined, place_of_pair, next_pair, final_pair, walker_over}
use Rattle.auto_bool.specs.Absorbed.{left_deciding, right_deciding, AreSinks, next_absorbed, absorbing_walker}

nat_eq-true : (x y : ℕ) → nat_eq x y ≡ true → x ≡ y
nat_eq-true x y e = grind (arith, common_steps, e)

pub absorbs-is : (o : Option ℕ) (x : ℕ) → absorbs o x ≡ true → o ≡ Some x
absorbs-is None x e = absurd (true≢false (sym e))
absorbs-is (Some v) x e = ap Some (sym (nat_eq-true x v e))

-- one of two values is absorbing
abbrev Absorbs : Absorbing → ℕ → ℕ → Type 0
Absorbs g x y = (g.left ≡ Some x) ⊎ (g.right ≡ Some y)

stand_in-absorbs : (o p : Option ℕ) (x y : ℕ) → (o ≡ Some x) ⊎ (p ≡ Some y) → (o ≡ Some (stand_in o p).0) ⊎ (p ≡ Some (stand_in o p).1)
stand_in-absorbs (Some l) p x y h = inl refl
stand_in-absorbs None (Some r) x y h = inr refl
stand_in-absorbs None None x y (inl e) = cc
stand_in-absorbs None None x y (inr e) = cc

-- a pair stands for itself, or both pairs have an absorbing value
abbrev StandsFor : Absorbing → ℕ → ℕ → ℕ → ℕ → Type 0
StandsFor g x' y' x y = ((x' ≡ x) × (y' ≡ y)) ⊎ (Absorbs g x y × Absorbs g x' y')

absorbed-stands : (g : Absorbing) (x y : ℕ) → StandsFor g (absorbed g x y).0 (absorbed g x y).1 x y
absorbed-stands g x y = by (absorbs g.left x) (absorbs g.right y) refl refl
  where
    one : absorbed g x y ≡ stand_in g.left g.right → Absorbs g x y → StandsFor g (absorbed g x y).0 (absorbed g x y).1 x y
    one e h = inr (h, subst (λ (p : ℕ × ℕ). Absorbs g p.0 p.1) (sym e) (stand_in-absorbs g.left g.right x y h))

    by : (b c : Bool) → absorbs g.left x ≡ b → absorbs g.right y ≡ c → StandsFor g (absorbed g x y).0 (absorbed g x y).1 x y
    by true c e f = one (absorbed-left g x y e) (inl (absorbs-is g.left x e))
    by false true e f = one (absorbed-right g x y f) (inr (absorbs-is g.right y f))
    by false false e f = let same = absorbed-neither g x y e f in inl (ap (λ (p : ℕ × ℕ). p.0) same, ap (λ (p : ℕ × ℕ). p.1) same)

left_decides : (connective : Connective) (other : Bool) → combined connective (left_deciding connective) other ≡ left_deciding connective
left_decides And other = refl
left_decides Or other = refl
left_decides AndNot other = refl

right_decides : (connective : Connective) (other : Bool) → combined connective other (right_deciding connective) ≡ left_deciding connective
right_decides And true = refl
right_decides And false = refl
right_decides Or true = refl
right_decides Or false = refl
right_decides AndNot true = refl
right_decides AndNot false = refl

module _ (g : Absorbing) (tracks : List Var) (a b : Automaton) (connective : Connective) (deciding_states : AreSinks a b connective g) where
  decided : (p q : ℕ) → Absorbs g p q → combined connective (is_final a p) (is_final b q) ≡ left_deciding connective
  decided p q (inl e) = ap (λ f. combined connective f (is_final b q)) (deciding_states.left p e).accepts ∙ left_decides connective (is_final b q)
  decided p q (inr e) = ap (λ f. combined connective (is_final a p) f) (deciding_states.right q e).accepts ∙ right_decides connective (is_final a p)

  -- an absorbing state stays
  stays : (p q letter : ℕ) → Absorbs g p q → Absorbs g (next_state a p (restrict tracks a.tracks letter)) (next_state b q (restrict tracks b.tracks letter))
  stays p q letter (inl e) = inl (e ∙ ap Some (sym ((deciding_states.left p e).stays (restrict tracks a.tracks letter) (restrict-below tracks a.tracks letter))))
  stays p q letter (inr e) = inr (e ∙ ap Some (sym ((deciding_states.right q e).stays (restrict tracks b.tracks letter) (restrict-below tracks b.tracks letter))))

  stands-on : (x y x' y' : ℕ) → StandsFor g x' y' x y → StandsFor g (absorbed g x' y').0 (absorbed g x' y').1 x y
  stands-on x y x' y' (inl (e, f)) =
      subst (λ n. StandsFor g (absorbed g n y').0 (absorbed g n y').1 x y) (sym e)
      (subst (λ n. StandsFor g (absorbed g x n).0 (absorbed g x n).1 x y) (sym f) (absorbed-stands g x y))
  stands-on x y x' y' (inr (here, there)) = elim (absorbed-stands g x' y') [
    | inl same ↦ inr (here, subst (λ n. Absorbs g n (absorbed g x' y').1) (sym same.0) (subst (λ n. Absorbs g x' n) (sym same.1) there))
    | inr both ↦ inr (here, both.1)
  ]

  stands-next : (p q p' q' letter : ℕ) → StandsFor g p' q' p q
      → StandsFor g (next_state a p' (restrict tracks a.tracks letter)) (next_state b q' (restrict tracks b.tracks letter)) (next_state a p (restrict tracks a.tracks letter))
      (next_state b q (restrict tracks b.tracks letter))
  stands-next p q p' q' letter (inl (e, f)) = inl (ap (λ n. next_state a n (restrict tracks a.tracks letter)) e, ap (λ n. next_state b n (restrict tracks b.tracks letter)) f)
  stands-next p q p' q' letter (inr (here, there)) = inr (stays p q letter here, stays p' q' letter there)

  fold-flag : (letters : List ℕ) (p q p' q' : ℕ) → StandsFor g p' q' p q
      → final_pair a b connective (fold (next_absorbed g a b tracks) (p' ∷ q' ∷ []) letters) ≡ final_pair a b connective (fold (next_pair a b tracks) (p ∷ q ∷ []) letters)
  fold-flag [] p q p' q' (inl (e, f)) = λ i. combined connective (is_final a (e i)) (is_final b (f i))
  fold-flag [] p q p' q' (inr (here, there)) = decided p' q' there ∙ sym (decided p q here)
  fold-flag (letter ∷ letters) p q p' q' h = fold-flag letters _ _ _ _ (stands-on _ _ _ _ (stands-next p q p' q' letter h))

  -- a word leads to a place of one flag, with absorbed pairs or with all
  pub same-flag : (word : List ℕ) → word ≢ []
      → final_pair a b connective (place_of (absorbing_walker g tracks a b connective) word) ≡ final_pair a b connective (place_of (walker_over tracks a b connective) word)
  same-flag [] nonempty = absurd (nonempty refl)
  same-flag (sign ∷ letters) nonempty = fold-flag letters _ _ _ _ (absorbed-stands g (first_state a (restrict tracks a.tracks sign)) (first_state b (restrict tracks b.tracks sign)))

-- the places of absorbed pairs are pairs of states
pub record IsPairOf (a b : Automaton) (place : List ℕ) : Type 0 where
  pub left : ℕ
  pub right : ℕ
  pub left_known : left < length a.accept
  pub right_known : right < length b.accept
  pub is : place ≡ left ∷ right ∷ []

module _ (g : Absorbing) (tracks : List Var) (a b : Automaton) (connective : Connective) (a_valid : IsAutomaton a) (b_valid : IsAutomaton b) (deciding_states : AreSinks a b connective g) where
  stand_in-known : (o p : Option ℕ) → ((state : ℕ) → o ≡ Some state → state < length a.accept) → ((state : ℕ) → p ≡ Some state → state < length b.accept)
      → ((stand_in o p).0 < length a.accept) × ((stand_in o p).1 < length b.accept)
  stand_in-known (Some l) p left right = (left l refl, b_valid.some_state)
  stand_in-known None (Some r) left right = (a_valid.some_state, right r refl)
  stand_in-known None None left right = (a_valid.some_state, b_valid.some_state)

  absorbed-known : (x y : ℕ) → x < length a.accept → y < length b.accept → ((absorbed g x y).0 < length a.accept) × ((absorbed g x y).1 < length b.accept)
  absorbed-known x y left right = by (absorbs g.left x) (absorbs g.right y) refl refl
    where
      one : absorbed g x y ≡ stand_in g.left g.right → ((absorbed g x y).0 < length a.accept) × ((absorbed g x y).1 < length b.accept)
      one e = subst (λ (p : ℕ × ℕ). (p.0 < length a.accept) × (p.1 < length b.accept)) (sym e)
          (stand_in-known g.left g.right (λ state is. (deciding_states.left state is).known) (λ state is. (deciding_states.right state is).known))

      by : (b' c : Bool) → absorbs g.left x ≡ b' → absorbs g.right y ≡ c → ((absorbed g x y).0 < length a.accept) × ((absorbed g x y).1 < length b.accept)
      by true c e f = one (absorbed-left g x y e)
      by false true e f = one (absorbed-right g x y f)
      by false false e f = subst (λ (p : ℕ × ℕ). (p.0 < length a.accept) × (p.1 < length b.accept)) (sym (absorbed-neither g x y e f)) (left, right)

  fold-pair_of : (letters : List ℕ) (p q : ℕ) → p < length a.accept → q < length b.accept → IsPairOf a b (fold (next_absorbed g a b tracks) (p ∷ q ∷ []) letters)
  fold-pair_of [] p q left right = record { left = p; right = q; left_known = left; right_known = right; is = refl }
  fold-pair_of (letter ∷ letters) p q left right =
      let known =
      absorbed-known (next_state a p (restrict tracks a.tracks letter)) (next_state b q (restrict tracks b.tracks letter))
      (entry_within (length a.accept) a.next _ a_valid.some_state a_valid.next_within)
      (entry_within (length b.accept) b.next _ b_valid.some_state b_valid.next_within) in
      fold-pair_of letters _ _ known.0 known.1

  pub place-pair_of : (word : List ℕ) → word ≢ [] → IsPairOf a b (place_of (absorbing_walker g tracks a b connective) word)
  place-pair_of [] nonempty = absurd (nonempty refl)
  place-pair_of (sign ∷ letters) nonempty =
      let known =
      absorbed-known (first_state a (restrict tracks a.tracks sign)) (first_state b (restrict tracks b.tracks sign))
      (entry_within (length a.accept) a.first _ a_valid.some_state a_valid.first_within)
      (entry_within (length b.accept) b.first _ b_valid.some_state b_valid.first_within) in
      fold-pair_of letters _ _ known.0 known.1

-- where nothing absorbs, the walk is over all pairs
module _ (g : Absorbing) (left : g.left ≡ None) (right : g.right ≡ None) (tracks : List Var) (a b : Automaton) (connective : Connective) where
  next-same : (place : List ℕ) (letter : ℕ) → next_absorbed g a b tracks place letter ≡ next_pair a b tracks place letter
  next-same [] letter = refl
  next-same (p ∷ []) letter = refl
  next-same (p ∷ q ∷ []) letter = ap place_of_pair (absorbed-nothing g (next_state a p (restrict tracks a.tracks letter)) (next_state b q (restrict tracks b.tracks letter)) left right)
  next-same (p ∷ q ∷ r ∷ rest) letter = refl

  pub walker-nothing : absorbing_walker g tracks a b connective ≡ walker_over tracks a b connective
  walker-nothing = λ i. record {
    tracks = tracks;
    first = λ letter. place_of_pair (absorbed-nothing g (first_state a (restrict tracks a.tracks letter)) (first_state b (restrict tracks b.tracks letter)) left right i);
    next = λ place letter. next-same place letter i;
    final = final_pair a b connective;
  }

  pub AreSinks-nothing : AreSinks a b connective g
  AreSinks-nothing = record { left = λ state is. absurd (some_none state (sym left ∙ is)); right = λ state is. absurd (some_none state (sym right ∙ is)) }
    where
      some_none : (state : ℕ) → None ≡ Some state → ⊥
      some_none state e = cc
