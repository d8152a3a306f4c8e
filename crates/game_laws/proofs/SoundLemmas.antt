-- A legal move keeps a position sound.
use Rattle.std.proofs.Common.{◌≡◌, ◌≢◌, ◌⊎◌, inl, inr, ℕ, zero, suc, ◌<◌, length, get_or, Some, sym, ap, subst, ◌∙◌, arith, refl}
use Rattle.std.proofs.lemmas.Option.{get_or_from_slice_get, slice_get_within, slice_get-get_or}
use Rattle.std.proofs.lemmas.Bool.Decides.{eqb_tells}
use Rattle.std.specs.List.{Any}
use Rattle.game_rules.specs.Game.{Position, Attacked, Bears, GoesAs, HasKings, HasOneKingAtMost, InCheck, IsAfter, IsLeftBy, IsLiveAnd, Legal, Sound, StandsOn, Step, man_at, other}
use Rattle.game_rules.specs.declared.men.Kind.{Kind}
use Rattle.game_rules.specs.declared.men.Kind.TheVariants.{King, Queen, Rook, Bishop, Knight, Pawn, Chancellor, Archbishop, Amazon, Nightrider}
use Rattle.game_rules.specs.declared.men.Man.{Man}
use Rattle.game_rules.specs.declared.men.Place.TheVariants.{At, Gone}
use Rattle.game_rules.specs.declared.men.Side.{Side}
use Rattle.game_rules.specs.declared.men.Side.TheVariants.{White, Black}
use Rattle.game_rules.specs.declared.men.Square.{Square}
use Rattle.game_laws.proofs.MoveLemmas.{stands_or_not}

-- what becomes of man k, who was m and is n, when man i goes to z
pub data Fate (i : ℕ) (z : Square) (k : ℕ) (m n : Man) : Type 0 where
  moved : k ≡ i → n ≡ record m { place = At z.x z.y } → Fate i z k m n
  taken : k ≢ i → StandsOn m z → n ≡ record m { place = Gone } → Fate i z k m n
  kept : (StandsOn m z → ⊥) → n ≡ m → Fate i z k m n

pub any_at : (p : Position) (P : Man → Type 0) (k : ℕ) (m : Man) → man_at p k ≡ Some m → P m → Any P p.men
any_at p P zero m is h = cc
any_at p P (suc k) m is h = (k, m, slice_get_within p.men k m is, get_or_from_slice_get p.men k m m is, h)

-- both positions have the same numbers
pub at_same : (p q : Position) (k : ℕ) (m : Man) → length q.men ≡ length p.men → man_at p k ≡ Some m → (n : Man) × (man_at q k ≡ Some n)
at_same p q zero m same is = cc
at_same p q (suc k) m same is =
    let within : k < length q.men = omega (arith, same, slice_get_within p.men k m is) in
    (get_or q.men k m, slice_get-get_or q.men k m within)

pub fate : {p : Position} {i : ℕ} {z : Square} {q : Position} → IsAfter p i z q → (k : ℕ) (m n : Man) → man_at p k ≡ Some m → man_at q k ≡ Some n → Fate i z k m n
fate {p} {i} {z} {q} after k m n was is =
    elim (eqb_tells k i) [
      | inl e ↦
          let here : man_at q k ≡ Some (record m { place = At z.x z.y }) =
          subst (λ j. man_at q j ≡ Some (record m { place = At z.x z.y })) (sym e.1) (after.mover m (subst (λ j. man_at p j ≡ Some m) e.1 was)) in
          moved e.1 (let same : Some n ≡ Some (record m { place = At z.x z.y }) = sym is ∙ here in cc)
      | inr e ↦
          let left : IsLeftBy z m n = after.others k m n e.1 was is in
          elim (stands_or_not m z) [ inl s ↦ taken e.1 s (left.taken s) | inr n ↦ kept n (left.kept n) ]
    ]

pub fate_side : {i : ℕ} {z : Square} {k : ℕ} {m n : Man} → Fate i z k m n → m.side ≡ n.side
fate_side (moved e is) = sym (ap (λ a. a.side) is)
fate_side (taken e s is) = sym (ap (λ a. a.side) is)
fate_side (kept s is) = sym (ap (λ a. a.side) is)

pub fate_kind : {i : ℕ} {z : Square} {k : ℕ} {m n : Man} → Fate i z k m n → m.kind ≡ n.kind
fate_kind (moved e is) = sym (ap (λ a. a.kind) is)
fate_kind (taken e s is) = sym (ap (λ a. a.kind) is)
fate_kind (kept s is) = sym (ap (λ a. a.kind) is)

pub other_other : (s : Side) → other (other s) ≡ s
other_other White = refl
other_other Black = refl

pub other_differs : (s : Side) → s ≡ other s → ⊥
other_differs White e = cc
other_differs Black e = cc

-- where it is known who holds z, whoever goes there bears on it
pub goes_bears : (k : Kind) (p : Position) (m : Man) (z : Square) → GoesAs k p m z → (j : ℕ) (n : Man) → man_at p j ≡ Some n → StandsOn n z → Bears p m z
goes_bears King p m z h j n is s = h
goes_bears Queen p m z h j n is s = h
goes_bears Rook p m z h j n is s = h
goes_bears Bishop p m z h j n is s = h
goes_bears Knight p m z h j n is s = h
goes_bears Chancellor p m z h j n is s = h
goes_bears Archbishop p m z h j n is s = h
goes_bears Amazon p m z h j n is s = h
goes_bears Nightrider p m z h j n is s = h
goes_bears Pawn p m z (inl h) j n is s = h.0
goes_bears Pawn p m z (inr h) zero n is s = cc
goes_bears Pawn p m z (inr h) (suc j) n is s =
    let there : get_or p.men j n ≡ n = get_or_from_slice_get p.men j n n is in
    absurd (h.1 j n (slice_get_within p.men j n is) (subst (λ a. StandsOn a z) (sym there) s))

pub live_at : (m : Man) (z : Square) (P : Square → Type 0) → StandsOn m z → P z → IsLiveAnd m P
live_at m z P s h = rw s h

pub side_or_other : (s t : Side) → (s ≡ t) ⊎ (s ≡ other t)
side_or_other White White = inl refl
side_or_other White Black = inr refl
side_or_other Black White = inr refl
side_or_other Black Black = inl refl

-- no king is taken
pub king_not_taken : (p : Position) (i : ℕ) (z : Square) (q : Position) → Sound p → Step p i z q → (k : ℕ) (m : Man) → man_at p k ≡ Some m → m.kind ≡ King → StandsOn m z → ⊥
king_not_taken p i z q sound step k m is king s =
    elim (side_or_other m.side p.turn) [
      | inl own ↦ step.not_own (any_at p _ k m is (own, s))
      | inr his ↦
          let bears : Bears p step.man z = goes_bears step.man.kind p step.man z step.goes k m is s in
          let attacked : Attacked p p.turn z = any_at p _ i step.man step.is_man (step.his_turn, bears) in
          let attacked' : Attacked p (other (other p.turn)) z = subst (λ t. Attacked p t z) (sym (other_other p.turn)) attacked in
          sound.other_safe (any_at p _ k m is (his, king, live_at m z (Attacked p (other (other p.turn))) s attacked'))
    ]

pub stands_moved : (m : Man) (z w : Square) → StandsOn (record m { place = At z.x z.y }) w → z ≡ w
stands_moved m z w s = cc

apart_after : {p : Position} (i : ℕ) (z : Square) → Sound p → (a b : ℕ) (ma mb m n : Man) (w : Square) → man_at p a ≡ Some ma → man_at p b ≡ Some mb
    → Fate i z a ma m → Fate i z b mb n → StandsOn m w → StandsOn n w → a ≡ b
apart_after i z sound a b ma mb m n w is_a is_b fa fb s t =
    elim fa [
      | moved e is ↦ elim fb [
        | moved e' is' ↦ e ∙ sym e'
        | taken ne h is' ↦ let gone : StandsOn (record mb { place = Gone }) w = subst (λ x. StandsOn x w) is' t in cc
        | kept off is' ↦
            let here : z ≡ w = stands_moved ma z w (subst (λ x. StandsOn x w) is s) in
            absurd (off (subst (StandsOn mb) (sym here) (subst (λ x. StandsOn x w) is' t)))
      ]
      | taken ne h is ↦ let gone : StandsOn (record ma { place = Gone }) w = subst (λ x. StandsOn x w) is s in cc
      | kept off is ↦ elim fb [
        | moved e' is' ↦
            let here : z ≡ w = stands_moved mb z w (subst (λ x. StandsOn x w) is' t) in
            absurd (off (subst (StandsOn ma) (sym here) (subst (λ x. StandsOn x w) is s)))
        | taken ne h is' ↦ let gone : StandsOn (record mb { place = Gone }) w = subst (λ x. StandsOn x w) is' t in cc
        | kept off' is' ↦ sound.apart a b ma mb w is_a is_b (subst (λ x. StandsOn x w) is s) (subst (λ x. StandsOn x w) is' t)
      ]
    ]

-- who is a king after the move was one before, of the same number, and stays live
few_after : {p : Position} {i : ℕ} {z : Square} {q : Position} → Sound p → Legal p i z q → (s : Side) → HasOneKingAtMost q s
few_after {p} {i} {z} {q} sound l s =
    let had : HasOneKingAtMost p s = sound.kings.few s in
    record {
      live = λ k n is side kind.
          let was = at_same q p k n (sym l.step.after.same_count) is in
          let f : Fate i z k was.0 n = fate l.step.after k was.0 n was.1 is in
          let his : was.0.side ≡ s = fate_side f ∙ side in
          let king : was.0.kind ≡ King = fate_kind f ∙ kind in
          elim f [
            | moved e at ↦ λ gone. let there : At z.x z.y ≡ Gone = sym (ap (λ a. a.place) at) ∙ gone in cc
            | taken ne h at ↦ absurd (king_not_taken p i z q sound l.step k was.0 was.1 king h)
            | kept off at ↦ λ gone. had.live k was.0 was.1 his king (sym (ap (λ a. a.place) at) ∙ gone)
          ];
      only = λ j k m n is_m is_n side_m side_n kind_m kind_n.
          let wm = at_same q p j m (sym l.step.after.same_count) is_m in
          let wn = at_same q p k n (sym l.step.after.same_count) is_n in
          let f : Fate i z j wm.0 m = fate l.step.after j wm.0 m wm.1 is_m in
          let g : Fate i z k wn.0 n = fate l.step.after k wn.0 n wn.1 is_n in
          had.only j k wm.0 wn.0 wm.1 wn.1 (fate_side f ∙ side_m) (fate_side g ∙ side_n) (fate_kind f ∙ kind_m) (fate_kind g ∙ kind_n);
    }

kings_after : {p : Position} {i : ℕ} {z : Square} {q : Position} → Sound p → Legal p i z q → HasKings q
kings_after {p} {i} {z} {q} sound l =
    record {
      few = few_after sound l;
      some = λ none. sound.kings.some (λ k m is kind.
          let now = at_same p q k m l.step.after.same_count is in
          let f : Fate i z k m now.0 = fate l.step.after k m now.0 is now.1 in
          none k now.0 now.1 (sym (fate_kind f) ∙ kind));
    }

pub legal_sound : (p : Position) (i : ℕ) (z : Square) (q : Position) → Sound p → Legal p i z q → Sound q
legal_sound p i z q sound l =
    record {
      kings = kings_after sound l;
      apart = λ a b m n w is_m is_n s t.
          let wm = at_same q p a m (sym l.step.after.same_count) is_m in
          let wn = at_same q p b n (sym l.step.after.same_count) is_n in
          apart_after i z sound a b wm.0 wn.0 m n w wm.1 wn.1
          (fate l.step.after a wm.0 m wm.1 is_m)
          (fate l.step.after b wn.0 n wn.1 is_n) s t;
      other_safe = λ check.
          l.safe (subst (InCheck q) (ap other l.step.after.turn ∙ other_other p.turn) check);
    }
