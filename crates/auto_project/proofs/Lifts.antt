-- Sets of states follow the lifts of a word.
use Rattle.std.proofs.Common.{◌≡◌, ◌≢◌, ◌↔◌, ℕ, zero, suc, ◌<◌, ◌^◌, Bool, true, false, true≢false, ◌||◌, nat_eq, List, [], ◌∷◌, ◌++◌, length, slice_index, replicate, Contains, arith, refl, sym, ap, ◌∙◌, subst, inl, inr}
use Rattle.std.specs.List.{All, fold, AllZip, list_any}
use Rattle.std.specs.List.Sorted.{IsStrictlyIncreasing}
use Rattle.std.proofs.lemmas.Bool.{cases_lt, or_cases, or_left, or_right}
use Rattle.std.proofs.lemmas.Bool.Decides.{Decides-eqb}
use Rattle.std.proofs.lemmas.List.{get_or_past}
use Rattle.std.proofs.lemmas.List.Elements.{All-get_or, All-nil, All-cons, All-head, All-tail}
use Rattle.std.proofs.lemmas.List.Kept.{IsStrictlyIncreasing-filter}
use Rattle.std.proofs.lemmas.List.Sums.{fold-append}
use Rattle.track_word.specs.declared.tracks.Var.{Var}
use Rattle.track_word.specs.Word.{repeat_first, repeated}
use Rattle.track_word.specs.Tracks.{without_var, part_of}
use Rattle.auto_core.specs.Automaton.{Automaton, IsAutomaton, first_state, next_state, run, state_of}
use Rattle.auto_core.specs.Spread.{IsLift}
use Rattle.auto_core.proofs.Restricted.{restrict-below}
use Rattle.auto_project.specs.Lifted.{ReadsAs, Begins, Follows, LiftLeads}
use Rattle.auto_project.specs.Subsets.{lengthened, leads_to, next_set}
use Rattle.auto_project.proofs.Lists.{Contains-cons, Contains-cases, Contains-head, Contains-filter, Contains-from_filter, Contains-range, increasing-range}
use Rattle.auto_project.proofs.Letters.{ReadsAs-lengthened, lengthened-or}

-- a word with its first letter repeated
front : (n sign : ℕ) (letters : List ℕ) → repeat_first (replicate n sign ++ sign ∷ letters) ≡ sign ∷ (replicate n sign ++ sign ∷ letters)
front zero sign letters = refl
front (suc n) sign letters = refl

repeated-is : (n sign : ℕ) (letters : List ℕ) → repeated n (sign ∷ letters) ≡ replicate n sign ++ sign ∷ letters
repeated-is zero sign letters = refl
repeated-is (suc n) sign letters = ap repeat_first (repeated-is n sign letters) ∙ front n sign letters

replicate-shift : (n sign : ℕ) (letters : List ℕ) → replicate (suc n) sign ++ letters ≡ replicate n sign ++ sign ∷ letters
replicate-shift zero sign letters = refl
replicate-shift (suc n) sign letters = ap (λ l. sign ∷ l) (replicate-shift n sign letters)

-- some element passes
pub any-from : (p : ℕ → Bool) (xs : List ℕ) → list_any p xs ≡ true → (t : ℕ) × Contains xs t × (p t ≡ true)
any-from p [] h = absurd (true≢false (sym h))
any-from p (x ∷ xs) h = by (p x) refl h (any-from p xs)
  where
    by : (b : Bool) → p x ≡ b → (b || list_any p xs) ≡ true → (list_any p xs ≡ true → (t : ℕ) × Contains xs t × (p t ≡ true))
        → (t : ℕ) × Contains (x ∷ xs) t × (p t ≡ true)
    by true e h later = (x, Contains-head x xs, e)
    by false e h later = let r = later h in (r.0, Contains-cons x xs r.0 r.1, r.2)

pub any-to : (p : ℕ → Bool) (xs : List ℕ) (t : ℕ) → Contains xs t → p t ≡ true → list_any p xs ≡ true
any-to p [] t c h = let k = c.1 in absurd (omega arith)
any-to p (x ∷ xs) t c h = elim (Contains-cases x xs t c) [
  | inl e ↦ or_left (p x) (list_any p xs) (ap p e ∙ h)
  | inr rest ↦ or_right (p x) (list_any p xs) (any-to p xs t rest h)
]

module _ (all some : List Var) where
  -- letters over all tracks that read as these
  to_zip : (longer : List ℕ) → All (λ l. l < 2 ^ length all) longer → AllZip (ReadsAs all some) (part_of all some longer) longer
  to_zip [] below = tt
  to_zip (l ∷ ls) below = (record { below = All-head (λ l. l < 2 ^ length all) l ls below; reads = refl }, to_zip ls (All-tail (λ l. l < 2 ^ length all) l ls below))

  zip-below : (letters longer : List ℕ) → AllZip (ReadsAs all some) letters longer → All (λ l. l < 2 ^ length all) longer
  zip-below [] [] z = All-nil (λ l. l < 2 ^ length all)
  zip-below [] (l ∷ ls) z = elim z [ ]
  zip-below (x ∷ xs) [] z = elim z [ ]
  zip-below (x ∷ xs) (l ∷ ls) z = All-cons (λ l. l < 2 ^ length all) l ls z.0.below (zip-below xs ls z.1)

  zip-reads : (letters longer : List ℕ) → AllZip (ReadsAs all some) letters longer → part_of all some longer ≡ letters
  zip-reads [] [] z = refl
  zip-reads [] (l ∷ ls) z = elim z [ ]
  zip-reads (x ∷ xs) [] z = elim z [ ]
  zip-reads (x ∷ xs) (l ∷ ls) z = let first = z.0.reads in let rest = zip-reads xs ls z.1 in λ i. first i ∷ rest i

  pub zip-append : (xs ys us vs : List ℕ) → AllZip (ReadsAs all some) xs us → AllZip (ReadsAs all some) ys vs → AllZip (ReadsAs all some) (xs ++ ys) (us ++ vs)
  zip-append [] ys [] vs h k = k
  zip-append [] ys (u ∷ us) vs h k = elim h [ ]
  zip-append (x ∷ xs) ys [] vs h k = elim h [ ]
  zip-append (x ∷ xs) ys (u ∷ us) vs h k = (h.0, zip-append xs ys us vs h.1 k)

  record Cut (xs ys ws : List ℕ) : Type 0 where
    left : List ℕ
    right : List ℕ
    is : ws ≡ left ++ right
    left_zip : AllZip (ReadsAs all some) xs left
    right_zip : AllZip (ReadsAs all some) ys right

  cut : (xs ys ws : List ℕ) → AllZip (ReadsAs all some) (xs ++ ys) ws → Cut xs ys ws
  cut [] ys ws h = record { left = []; right = ws; is = refl; left_zip = tt; right_zip = h }
  cut (x ∷ xs) ys [] h = elim h [ ]
  cut (x ∷ xs) ys (w ∷ ws) h =
      let rest = cut xs ys ws h.1 in
      record { left = w ∷ rest.left; right = rest.right; is = ap (λ l. w ∷ l) rest.is; left_zip = (h.0, rest.left_zip); right_zip = rest.right_zip }

  -- a lift reads as the word with its first letter so many times more
  record LiftZips (sign : ℕ) (letters lift : List ℕ) : Type 0 where
    times : ℕ
    zips : AllZip (ReadsAs all some) (replicate (suc times) sign ++ letters) lift

  lift-zips : (sign : ℕ) (letters : List ℕ) {lift : List ℕ} → IsLift some all (sign ∷ letters) lift → LiftZips sign letters lift
  lift-zips sign letters {lift} is = record {
    times = is.times;
    zips = subst (λ l. AllZip (ReadsAs all some) l lift) (is.repeats ∙ repeated-is is.times sign letters ∙ sym (replicate-shift is.times sign letters)) (to_zip lift is.is_word.letters);
  }

  some_zip : (x : ℕ) (xs lift : List ℕ) → AllZip (ReadsAs all some) (x ∷ xs) lift → lift ≢ []
  some_zip x xs [] z e = elim z [ ]
  some_zip x xs (l ∷ ls) z e = cc

  zips-lift : (sign times : ℕ) (letters lift : List ℕ) → AllZip (ReadsAs all some) (replicate (suc times) sign ++ letters) lift → IsLift some all (sign ∷ letters) lift
  zips-lift sign times letters lift z = record {
    is_word = record { nonempty = some_zip sign (replicate times sign ++ letters) lift z; letters = zip-below (replicate (suc times) sign ++ letters) lift z };
    times = times;
    repeats = zip-reads (replicate (suc times) sign ++ letters) lift z ∙ replicate-shift times sign letters ∙ sym (repeated-is times sign letters);
  }

module _ (a : Automaton) (some : List Var) where
  state_of-append : (x : ℕ) (xs left right : List ℕ) → AllZip (ReadsAs a.tracks some) (x ∷ xs) left → state_of a (left ++ right) ≡ run a (state_of a left) right
  state_of-append x xs [] right h = elim h [ ]
  state_of-append x xs (l ∷ ls) right h = fold-append (next_state a) (first_state a l) ls right

  -- a sign letter is a lift of itself
  pub LiftLeads-begins : {letter state : ℕ} → Begins a some letter state → LiftLeads a some (letter ∷ []) state
  LiftLeads-begins {letter} b = record { lift = b.longer ∷ []; is = zips-lift a.tracks some letter 0 [] (b.longer ∷ []) (b.is, tt); leads = b.leads }

  -- one more letter makes a lift of a letter longer
  pub LiftLeads-follows : {letter from state : ℕ} → LiftLeads a some (letter ∷ []) from → Follows a some from letter state → LiftLeads a some (letter ∷ []) state
  LiftLeads-follows {letter} l f =
      let z = lift-zips a.tracks some letter [] l.is in
      let longer = zip-append a.tracks some (replicate (suc z.times) letter ++ []) (letter ∷ []) l.lift (f.longer ∷ []) z.zips (f.is, tt) in
      record {
        lift = l.lift ++ f.longer ∷ [];
        is = zips-lift a.tracks some letter (suc z.times) [] (l.lift ++ f.longer ∷ []) (subst (λ w. AllZip (ReadsAs a.tracks some) w (l.lift ++ f.longer ∷ [])) (one_more z.times) longer);
        leads = state_of-append letter (replicate z.times letter ++ []) l.lift (f.longer ∷ []) z.zips ∙ ap (λ s. next_state a s f.longer) l.leads ∙ f.leads;
      }
    where
      one_more : (n : ℕ) → (replicate (suc n) letter ++ []) ++ letter ∷ [] ≡ replicate (suc (suc n)) letter ++ []
      one_more zero = refl
      one_more (suc n) = ap (λ l. letter ∷ l) (one_more n)

  -- a set that has what a letter begins with, and what follows on it by the letter, has all that lifts of the letter lead to
  module _ (letter : ℕ) (set : List ℕ) (begins : (state : ℕ) → Begins a some letter state → Contains set state)
      (follows : (from state : ℕ) → Contains set from → Follows a some from letter state → Contains set state) where
    run-in : (n : ℕ) (longer : List ℕ) (from : ℕ) → Contains set from → AllZip (ReadsAs a.tracks some) (replicate n letter ++ []) longer → Contains set (run a from longer)
    run-in zero [] from c z = c
    run-in zero (l ∷ ls) from c z = elim z [ ]
    run-in (suc n) [] from c z = elim z [ ]
    run-in (suc n) (l ∷ ls) from c z = run-in n ls (next_state a from l) (follows from (next_state a from l) c (record { longer = l; is = z.0; leads = refl })) z.1

    lift-in : (n : ℕ) (lift : List ℕ) → AllZip (ReadsAs a.tracks some) (replicate (suc n) letter ++ []) lift → Contains set (state_of a lift)
    lift-in n [] z = elim z [ ]
    lift-in n (l ∷ ls) z = run-in n ls (first_state a l) (begins (first_state a l) (record { longer = l; is = z.0; leads = refl })) z.1

    pub LiftLeads-in : (state : ℕ) → LiftLeads a some (letter ∷ []) state → Contains set state
    LiftLeads-in state l = let z = lift-zips a.tracks some letter [] l.is in subst (Contains set) l.leads (lift-in z.times l.lift z.zips)

  module _ (step : List ℕ → ℕ → List ℕ)
      (steps : (set : List ℕ) (letter t : ℕ) → letter < 2 ^ length some → Contains (step set letter) t ↔ ((s : ℕ) × Contains set s × Follows a some s letter t)) where
    -- a state of the set, and longer letters from it
    record Leads (set letters : List ℕ) (t : ℕ) : Type 0 where
      from : ℕ
      member : Contains set from
      pub longer : List ℕ
      pub zips : AllZip (ReadsAs a.tracks some) letters longer
      pub leads : run a from longer ≡ t

    fold_leads : (letters set : List ℕ) (t : ℕ) → All (λ l. l < 2 ^ length some) letters → Contains (fold step set letters) t → Leads set letters t
    fold_leads [] set t small h = record { from = t; member = h; longer = []; zips = tt; leads = refl }
    fold_leads (letter ∷ letters) set t small h =
        let rest = fold_leads letters (step set letter) t (All-tail (λ l. l < 2 ^ length some) letter letters small) h in
        let before = (steps set letter rest.from (All-head (λ l. l < 2 ^ length some) letter letters small)).0 rest.member in
        record {
          from = before.0;
          member = before.1;
          longer = before.2.longer ∷ rest.longer;
          zips = (before.2.is, rest.zips);
          leads = ap (λ s. run a s rest.longer) before.2.leads ∙ rest.leads;
        }

    fold_has : (letters longer set : List ℕ) (s t : ℕ) → Contains set s → AllZip (ReadsAs a.tracks some) letters longer → run a s longer ≡ t → Contains (fold step set letters) t
    fold_has [] [] set s t member zips e = subst (Contains set) e member
    fold_has [] (l ∷ ls) set s t member zips e = elim zips [ ]
    fold_has (l ∷ ls) [] set s t member zips e = elim zips [ ]
    fold_has (letter ∷ letters) (l ∷ ls) set s t member zips e =
        let small = subst (λ n. n < 2 ^ length some) zips.0.reads (restrict-below a.tracks some l) in
        fold_has letters ls (step set letter) (next_state a s l) t ((steps set letter (next_state a s l) small).1 (s, member, record { longer = l; is = zips.0; leads = refl })) zips.1 e

    -- the set after a word has just the states to which its lifts lead
    pub lift_from : (sign : ℕ) (letters first : List ℕ) (t : ℕ) → ((s : ℕ) → Contains first s → LiftLeads a some (sign ∷ []) s) → All (λ l. l < 2 ^ length some) letters
        → Contains (fold step first letters) t → LiftLeads a some (sign ∷ letters) t
    lift_from sign letters first t firsts small h =
        let l = fold_leads letters first t small h in
        let s = firsts l.from l.member in
        let z = lift-zips a.tracks some sign [] s.is in
        let both = zip-append a.tracks some (replicate (suc z.times) sign ++ []) letters s.lift l.longer z.zips l.zips in
        record {
          lift = s.lift ++ l.longer;
          is = zips-lift a.tracks some sign z.times letters (s.lift ++ l.longer) (subst (λ w. AllZip (ReadsAs a.tracks some) w (s.lift ++ l.longer)) (no_more z.times letters) both);
          leads = state_of-append sign (replicate z.times sign ++ []) s.lift l.longer z.zips ∙ ap (λ x. run a x l.longer) s.leads ∙ l.leads;
        }
      where
        no_more : (n : ℕ) (ls : List ℕ) → (replicate (suc n) sign ++ []) ++ ls ≡ replicate (suc n) sign ++ ls
        no_more zero ls = refl
        no_more (suc n) ls = ap (λ l. sign ∷ l) (no_more n ls)

    pub lift_to : (sign : ℕ) (letters first : List ℕ) (t : ℕ) → ((s : ℕ) → LiftLeads a some (sign ∷ []) s → Contains first s) → LiftLeads a some (sign ∷ letters) t
        → Contains (fold step first letters) t
    lift_to sign letters first t firsts l =
        let z = lift-zips a.tracks some sign letters l.is in
        let parts = cut a.tracks some (replicate (suc z.times) sign) letters l.lift z.zips in
        let zips = subst (λ w. AllZip (ReadsAs a.tracks some) w parts.left) (nothing (replicate (suc z.times) sign)) parts.left_zip in
        let at = firsts (state_of a parts.left) (record { lift = parts.left; is = zips-lift a.tracks some sign z.times [] parts.left zips; leads = refl }) in
        fold_has letters parts.right first (state_of a parts.left) t at parts.right_zip
        (sym (ap (state_of a) parts.is ∙ state_of-append sign (replicate z.times sign) parts.left parts.right parts.left_zip) ∙ l.leads)
      where
        nothing : (ls : List ℕ) → ls ≡ ls ++ []
        nothing [] = refl
        nothing (x ∷ xs) = ap (λ l. x ∷ l) (nothing xs)

entry_within : (n : ℕ) (xs : List ℕ) (i : ℕ) → 0 < n → All (λ x. x < n) xs → slice_index xs i < n
entry_within n xs i some all =
    elim (cases_lt i (length xs)) [
      | inl within ↦ All-get_or (λ x. x < n) xs i 0 within all
      | inr past ↦ rw (get_or_past xs i 0 past) some
    ]

module _ (a : Automaton) (x : Var) (valid : IsAutomaton a) where
  next-within : (state letter : ℕ) → next_state a state letter < length a.accept
  next-within state letter = entry_within (length a.accept) a.next _ valid.some_state valid.next_within

  pub follows-within : {from letter state : ℕ} → Follows a (without_var x a.tracks) from letter state → state < length a.accept
  follows-within {from} f = subst (λ n. n < length a.accept) f.leads (next-within from f.longer)

  -- a set is followed by the states that follow on its states
  pub steps-next : (set : List ℕ) (letter t : ℕ) → letter < 2 ^ length (without_var x a.tracks)
      → Contains (next_set a (without_var x a.tracks) set letter) t ↔ ((s : ℕ) × Contains set s × Follows a (without_var x a.tracks) s letter t)
  steps-next set letter t below = (to, from)
    where
      to : Contains (next_set a (without_var x a.tracks) set letter) t → (s : ℕ) × Contains set s × Follows a (without_var x a.tracks) s letter t
      to c =
          let passes = (Contains-from_filter (leads_to a (without_var x a.tracks) set letter) _ t c).1 in
          let one =
          any-from
          (λ s. nat_eq (next_state a s (lengthened a.tracks (without_var x a.tracks) 0 letter)) t || nat_eq
          (next_state a s (lengthened a.tracks (without_var x a.tracks) 1 letter)) t)
          set passes in (
            one.0,
            one.1,
            elim (or_cases _ _ one.2) [
              | inl e ↦ record { longer = lengthened a.tracks (without_var x a.tracks) 0 letter; is = ReadsAs-lengthened a.tracks x valid.ascending letter 0 below; leads = (Decides-eqb _ t).0 e }
              | inr e ↦ record { longer = lengthened a.tracks (without_var x a.tracks) 1 letter; is = ReadsAs-lengthened a.tracks x valid.ascending letter 1 below; leads = (Decides-eqb _ t).0 e }
            ],
          )

      from : ((s : ℕ) × Contains set s × Follows a (without_var x a.tracks) s letter t) → Contains (next_set a (without_var x a.tracks) set letter) t
      from (s, member, f) =
          Contains-filter (leads_to a (without_var x a.tracks) set letter) _ t (Contains-range (length a.accept) t (follows-within f))
          (any-to
          (λ s. nat_eq (next_state a s (lengthened a.tracks (without_var x a.tracks) 0 letter)) t || nat_eq
          (next_state a s (lengthened a.tracks (without_var x a.tracks) 1 letter)) t)
          set s member
          (elim (lengthened-or a.tracks x valid.ascending f.is) [
            | inl e ↦ or_left _ _ ((Decides-eqb (next_state a s (lengthened a.tracks (without_var x a.tracks) 0 letter)) t).1 (ap (next_state a s) (sym e) ∙ f.leads))
            | inr e ↦ or_right _ _ ((Decides-eqb (next_state a s (lengthened a.tracks (without_var x a.tracks) 1 letter)) t).1 (ap (next_state a s) (sym e) ∙ f.leads))
          ]))

  pub increasing-next : (set : List ℕ) (letter : ℕ) → IsStrictlyIncreasing (next_set a (without_var x a.tracks) set letter)
  increasing-next set letter = IsStrictlyIncreasing-filter (leads_to a (without_var x a.tracks) set letter) _ (increasing-range (length a.accept))
