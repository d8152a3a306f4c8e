-- What is kept after a path are the distances from which the winner mates in what is left.
use Rattle.std.proofs.Common.{◌≡◌, ◌↔◌, ◌⊎◌, ℕ, zero, suc, ◌+◌, ◌*◌, ◌<◌, ◌≤◌, Bool, true, false, ◌&&◌, IsTrue, List, [], ◌∷◌, map, length, Some, None, ℤ, pos, inl, inr, refl, sym, ap, ◌∙◌, subst, arith}
use Rattle.std.specs.Prelude.{Contains, if◌then◌else◌}
use Rattle.game_rules.specs.Game.{Position, Sound, Value, other}
use Rattle.game_rules.specs.declared.men.Side.{Side}
use Rattle.track_word.specs.Tracks.{Values, values_at}
use Rattle.lin_formula.specs.Holds.{Holds}
use Rattle.lin_formula.specs.SetOf.{IsEmpty, Member, Nothing, SetOf, members}
use Rattle.lin_formula.specs.Tree.{Among, Not, Or}
use Rattle.rule_formula.specs.declared.opt.Bearing.{Bearing}
use Rattle.rule_formula.specs.declared.opt.Opt.{Opt}
use Rattle.rule_formula.specs.Options.{is_side}
use Rattle.rule_formula.proofs.ListTheorem.{side_is}
use Rattle.line_formula.specs.Paths.{Plays, after, bear_after, options_at, threats_at, turn_at}
use Rattle.line_formula.proofs.PathTheorem.{at_home, bears_mean_check}
use Rattle.set_plan.specs.Program.{Program, Entry, Item, Takes, Give, Ask, Empty, Within, Has, Question, IsYes, each, bind}
use Rattle.set_plan.specs.Unite.{Made, difference, join, make, with_item}
use Rattle.set_plan.proofs.Composition.{Takes-split, none_some}
use Rattle.set_plan.proofs.Takings.{Takes-give, contains_cases, contains_head, contains_rest}
use Rattle.line_plan.specs.Plan.{Found, Losing, distances, is_known, kept, kept_by, known_of, lose, lose_option, lost_by, narrowed, no_distance, plies, reach, shorten_rest, shortened, shortened_rest, win, win_option, won_by}
use Rattle.line_plan.specs.Laws.{IsKept, IsLine, IsSetWhere, KeptIsWon, PlanDecides}
use Rattle.line_plan.proofs.Games.{SomeMove, before_plays, is_others, loser_moves, next_value, none_left, turned, winner_moves}
use Rattle.formula_auto.proofs.NoSets.{Holds-no_set}
use Rattle.line_plan.proofs.PartFacts.{bear_is_part}
use Rattle.line_plan.proofs.Reaches.{reach_is_legal}
use Rattle.line_plan.proofs.SetFacts.{free_difference, free_known, free_narrowed, free_rest, free_shortened, join_where, make_where, nothing_where, where_at, where_map, with_item_where}

-- one of the elements has the property
abbrev AnyOf : {X : Type 0} → List X → (X → Type 0) → Type 0
AnyOf [] P = ⊥
AnyOf (x ∷ xs) P = P x ⊎ AnyOf xs P

any_in : {X : Type 0} (xs : List X) (P : X → Type 0) → AnyOf xs P → (x : X) × Contains xs x × P x
any_in [] P h = absurd h
any_in (x ∷ xs) P (inl h) = (x, contains_head x xs, h)
any_in (x ∷ xs) P (inr h) = let (y, is, k) = any_in xs P h in (y, contains_rest x xs y is, k)

in_any : {X : Type 0} (xs : List X) (P : X → Type 0) (x : X) → Contains xs x → P x → AnyOf xs P
in_any [] P x (k, less, is) h = absurd (omega (arith, less))
in_any (y ∷ ys) P x is h = elim (contains_cases y ys x is) [ inl same ↦ inl (subst P (sym same) h) | inr rest ↦ inr (in_any ys P x rest h) ]

both_known : (a b : Bool) → (a && b) ≡ true → (a ≡ true) × (b ≡ true)
both_known true b e = (refl, e)
both_known false b e = absurd (cc)

-- what was asked goes one way
asked : {P A : Type 0} (empty : SetOf) (m n : Program P A) (xs : List (Entry P)) (a : A) → Takes (Ask (Empty (empty ∷ [])) m n) xs (Some a)
    → (IsEmpty empty × Takes m xs (Some a)) ⊎ ((IsEmpty empty → ⊥) × Takes n xs (Some a))
asked s m n xs a (inl (e, o)) = none_some o
asked s m n xs a (inr (inl (inl is, t))) = inl (is, t)
asked s m n xs a (inr (inl (inr never, t))) = absurd never
asked s m n xs a (inr (inr (some, t))) = inr (some.0, t)

answered : {P : Type 0} (q : Question) (b : Bool) (xs : List (Entry P)) → Takes (Ask q (Give true) (Give false)) xs (Some b) → b ≡ true → IsYes q
answered q b xs (inl (e, o)) holds = none_some o
answered q b xs (inr (inl (is, t))) holds = is
answered q b xs (inr (inr (is, t))) holds = let other_answer : b ≡ false = Takes-give false b xs t in let never : true ≡ false = sym holds ∙ other_answer in absurd (cc)

-- some distance of a next move, by this option
abbrev By : List Opt → (Opt → Values → Type 0) → Opt → Values → Type 0
By s Q o v = (t : ℤ) × Q o (next_value s v t)

module _ (p : Position) (winner : Side) (sound : Sound p) (s : List Opt) (few : length s < 16) (reached : SetOf) (line : IsLine p s reached) (then_kept : List Opt → Made → Program (Unit {0}) Found) (n : ℕ)
    (later : (o : Opt) (next : Made) (xs : List (Entry (Unit {0}))) (found : Found) → Contains (options_at p s) o → IsLine p (o ∷ s) next.0
    → Takes (then_kept (o ∷ s) next) xs (Some found) → found.known ≡ true → IsKept p winner n (o ∷ s) found.set) where
  -- legal, and kept
  Kept : Opt → Values → Type 0
  Kept o u = Plays p (o ∷ s) u × Value winner n (after p (o ∷ s) u)

  -- legal, and not kept
  Left : Opt → Values → Type 0
  Left o u = Plays p (o ∷ s) u × ¬ Value winner n (after p (o ∷ s) u)

  Moved : Opt → Values → Type 0
  Moved o u = Plays p (o ∷ s) u

  none_there : (o : Opt) (next : SetOf) → IsLine p (o ∷ s) next → IsEmpty next → (u : Values) → Plays p (o ∷ s) u → ⊥
  none_there o next is empty u plays = empty (values_at (distances (suc (length s))) u) ((is.same u).1 plays)

  -- one more option of the winner
  won_option : (P : Values → Type 0) (o : Opt) (so_far : Found) (xs : List (Entry (Unit {0}))) (found : Found) → Contains (options_at p s) o
      → Takes (win_option p winner then_kept s reached o so_far) xs (Some found) → found.known ≡ true → (so_far.known ≡ true → IsSetWhere (length s) P so_far.set)
      → (so_far.known ≡ true) × IsSetWhere (length s) (λ v. P v ⊎ By s Kept o v) found.set
  unfolding Kept
  won_option P o so_far xs found listed t known set =
      let (us, ws, next, order, first, rest) = Takes-split (reach p winner s o (reached, so_far.at))
      (λ (next : Made). Ask (Empty (next.0 ∷ [])) (Give (record { set = so_far.set; at = next.1; known = so_far.known })) (won_by p winner then_kept s reached o next so_far)) xs found t in
      let legal : IsLine p (o ∷ s) next.0 = reach_is_legal p winner s o reached so_far.at us next sound few listed line first in
      elim (asked next.0 (Give (record { set = so_far.set; at = next.1; known = so_far.known })) (won_by p winner then_kept s reached o next so_far) ws found rest) [
        | inl (empty, gives) ↦
            let same : found ≡ record { set = so_far.set; at = next.1; known = so_far.known } = Takes-give (record { set = so_far.set; at = next.1; known = so_far.known }) found ws gives in
            let was : so_far.known ≡ true = sym (ap (λ (f : Found). f.known) same) ∙ known in (
              was,
              subst (λ (k : SetOf). IsSetWhere (length s) (λ v. P v ⊎ By s Kept o v) k) (sym (ap (λ (f : Found). f.set) same))
                  (where_map (set was) (λ v. (λ h. inl h, λ h. elim h [ inl a ↦ a | inr b ↦ absurd (none_there o next.0 legal empty (next_value s v b.0) b.1.0) ]))),
            )
        | inr (some, goes) ↦
            let (as_, bs, inner, order_in, one, two_) = Takes-split (then_kept (o ∷ s) next)
            (λ (inner : Found). bind (with_item (distances (length s)) tt (shortened (length s) inner.set) (so_far.set, inner.at))
            (λ (made : Made). Give (record { set = made.0; at = made.1; known = so_far.known && inner.known }))) ws found goes in
            let (cs, ds, made, order_made, item, gives) = Takes-split (with_item (distances (length s)) tt (shortened (length s) inner.set) (so_far.set, inner.at))
            (λ (made : Made). Give (record { set = made.0; at = made.1; known = so_far.known && inner.known })) bs found two_ in
            let same : found ≡ record { set = made.0; at = made.1; known = so_far.known && inner.known } = Takes-give (record { set = made.0; at = made.1; known = so_far.known && inner.known }) found ds gives in
            let all = both_known so_far.known inner.known (sym (ap (λ (f : Found). f.known) same) ∙ known) in
            let is = later o next as_ inner listed legal one all.1 in
            let whole = with_item_where tt (length s) (shortened (length s) inner.set) (so_far.set, inner.at) cs made (set all.0) (free_shortened (length s)) item in (
              all.0,
              subst (λ (k : SetOf). IsSetWhere (length s) (λ v. P v ⊎ By s Kept o v) k) (sym (ap (λ (f : Found). f.set) same))
                  (where_map whole (λ v. (
                    λ h. elim h [ inl a ↦ inl a | inr b ↦ inr (b.0, (is.same (next_value s v b.0)).0 b.1) ],
                    λ h. elim h [ inl a ↦ inl a | inr b ↦ inr (b.0, (is.same (next_value s v b.0)).1 b.1) ],
                  ))),
            )
      ]

  won_options : (os : List Opt) (P : Values → Type 0) (so_far : Found) (xs : List (Entry (Unit {0}))) (found : Found) → ((o : Opt) → Contains os o → Contains (options_at p s) o)
      → Takes (each os (win_option p winner then_kept s reached) so_far) xs (Some found) → found.known ≡ true → (so_far.known ≡ true → IsSetWhere (length s) P so_far.set)
      → (so_far.known ≡ true) × IsSetWhere (length s) (λ v. P v ⊎ AnyOf os (λ o. By s Kept o v)) found.set
  won_options [] P so_far xs found listed t known set =
      let same : found ≡ so_far = Takes-give so_far found xs t in
      let was : so_far.known ≡ true = sym (ap (λ (f : Found). f.known) same) ∙ known in (
        was,
        subst (λ (f : Found). IsSetWhere (length s) (λ v. P v ⊎ ⊥) f.set) (sym same) (where_map (set was) (λ v. (λ h. inl h, λ h. elim h [ inl a ↦ a | inr b ↦ absurd b ]))),
      )
  won_options (o ∷ os) P so_far xs found listed t known set =
      let (us, ws, next, order, first, rest) = Takes-split (win_option p winner then_kept s reached o so_far) (each os (win_option p winner then_kept s reached)) xs found t in
      let step = λ (known_next : next.known ≡ true). won_option P o so_far us next (listed o (contains_head o os)) first known_next set in
      let more = won_options os (λ v. P v ⊎ By s Kept o v) next ws found (λ c is. listed c (contains_rest o os c is)) rest known (λ k. (step k).1) in (
        (step more.0).0,
        where_map more.1 (λ v. (
          λ h. elim h [ inl a ↦ elim a [ inl b ↦ inl b | inr c ↦ inr (inl c) ] | inr d ↦ inr (inr d) ],
          λ h. elim h [ inl a ↦ inl (inl a) | inr b ↦ elim b [ inl c ↦ inl (inr c) | inr d ↦ inr d ] ],
        )),
      )

  pub win_kept : turn_at p s ≡ winner → (at : ℕ) (xs : List (Entry (Unit {0}))) (found : Found) → Takes (win p winner then_kept s reached at) xs (Some found) → found.known ≡ true
      → IsKept p winner (suc n) s found.set
  unfolding Kept
  win_kept turn at xs found t known =
      let all = won_options (options_at p s) (λ v. ⊥) (record { set = Nothing; at = at; known = true }) xs found (λ o is. is) t known (λ _. nothing_where (length s)) in
      where_map all.1 (λ v. (
        λ h. elim h [
          | inl never ↦ absurd never
          | inr some ↦
              let (o, listed, (t, h)) = any_in (options_at p s) (λ o. By s Kept o v) some in
              let plays : Plays p s v = back v o t h.0 in
              (plays, (winner_moves p winner sound s v plays n turn).1 (record { option = o; distance = t; listed = listed; plays = h.0; holds = h.1 }))
        ],
        λ h.
            let m = (winner_moves p winner sound s v h.0 n turn).0 h.1 in
            inr (in_any (options_at p s) (λ o. By s Kept o v) m.option m.listed (m.distance, (m.plays, m.holds))),
      ))
    where
      back : (v : Values) (o : Opt) (t : ℤ) → Plays p (o ∷ s) (next_value s v t) → Plays p s v
      back v o t h = before_plays p s v t h.0

  -- the facts of what there is so far at a path of the loser
  record IsLosing (E M : Values → Type 0) (so_far : Losing) : Type 0 where
    escape : IsSetWhere (length s) E so_far.escape
    moves : IsSetWhere (length s) M so_far.moves

  -- of each tuple of an option it is known whether it is kept
  Sure : Opt → Type 0
  Sure o = (u : Values) → Plays p (o ∷ s) u → Value winner n (after p (o ∷ s) u) ⊎ ¬ Value winner n (after p (o ∷ s) u)

  sure_of : (o : Opt) (next inner : SetOf) → IsLine p (o ∷ s) next → IsKept p winner n (o ∷ s) inner
      → ((tuple : List ℤ) → Member next tuple → Member (known_of (suc (length s)) inner) tuple) → Sure o
  unfolding Sure
  sure_of o next inner legal is known u plays =
      let within = known (values_at (distances (suc (length s))) u) ((legal.same u).1 plays) in
      let told = (where_at (suc (length s)) (Or (Among 0 (distances (suc (length s)))) (Not (Among 0 (distances (suc (length s)))))) (λ _. inner) u (free_known (suc (length s)))).0 within in
      elim told [
        | inl has ↦ inl ((is.same u).0 has).1
        | inr never ↦ inr (λ value. never ((is.same u).1 (plays, value)))
      ]

  escapes : (E : Values → Type 0) (o : Opt) (next inner : SetOf) (so_far : Made) (xs : List (Entry (Unit {0}))) (made : Made) → IsLine p (o ∷ s) next → IsKept p winner n (o ∷ s) inner
      → IsSetWhere (length s) E so_far.0 → Takes (shorten_rest p winner s next inner so_far) xs (Some made) → IsSetWhere (length s) (λ v. E v ⊎ By s Left o v) made.0
  unfolding Left
  escapes E o next inner so_far xs made legal is set t =
      elim (asked inner (with_item (distances (length s)) tt (shortened (length s) next) so_far) (with_item (distances (length s)) tt (shortened_rest (length s) next inner) so_far) xs made t) [
        | inl (empty, all) ↦
            where_map (with_item_where tt (length s) (shortened (length s) next) so_far xs made set (free_shortened (length s)) all) (λ v. (
              λ h. elim h [
                | inl a ↦ inl a
                | inr b ↦
                    let u : Values = next_value s v b.0 in
                    let plays : Plays p (o ∷ s) u = (legal.same u).0 b.1 in
                    inr (b.0, (plays, λ value. empty (values_at (distances (suc (length s))) u) ((is.same u).1 (plays, value))))
              ],
              λ h. elim h [ inl a ↦ inl a | inr b ↦ inr (b.0, (legal.same (next_value s v b.0)).1 b.1.0) ],
            ))
        | inr (some, rest) ↦
            where_map (with_item_where tt (length s) (shortened_rest (length s) next inner) so_far xs made set (free_rest (length s)) rest) (λ v. (
              λ h. elim h [
                | inl a ↦ inl a
                | inr b ↦
                    let u : Values = next_value s v b.0 in
                    let plays : Plays p (o ∷ s) u = (legal.same u).0 b.1.0 in
                    inr (b.0, (plays, λ value. b.1.1 ((is.same u).1 (plays, value))))
              ],
              λ h. elim h [
                | inl a ↦ inl a
                | inr b ↦
                    let u : Values = next_value s v b.0 in
                    inr (b.0, ((legal.same u).1 b.1.0, λ member. b.1.1 ((is.same u).0 member).1))
              ],
            ))
      ]

  given : Losing → Made → Losing
  given so_far next = record { escape = so_far.escape; moves = so_far.moves; at = next.1; known = so_far.known }

  ended : Losing → Found → Bool → Made → Made → Losing
  ended so_far inner sure escape moves = record { escape = escape.0; moves = moves.0; at = moves.1; known = so_far.known && (inner.known && sure) }

  -- one more option of the loser
  lost_option : (E M : Values → Type 0) (o : Opt) (so_far : Losing) (xs : List (Entry (Unit {0}))) (lost : Losing) → Contains (options_at p s) o
      → Takes (lose_option p winner then_kept s reached o so_far) xs (Some lost) → lost.known ≡ true → (so_far.known ≡ true → IsLosing E M so_far)
      → (so_far.known ≡ true) × Sure o × IsLosing (λ v. E v ⊎ By s Left o v) (λ v. M v ⊎ By s Moved o v) lost
  unfolding Left Moved Sure given ended
  lost_option E M o so_far xs lost listed t known set =
      let (us, ws, next, order, first, rest) = Takes-split (reach p winner s o (reached, so_far.at))
      (λ (next : Made). Ask (Empty (next.0 ∷ [])) (Give (given so_far next)) (lost_by p winner then_kept s reached o next so_far)) xs lost t in
      let legal : IsLine p (o ∷ s) next.0 = reach_is_legal p winner s o reached so_far.at us next sound few listed line first in
      let Facts : Losing → Type 0 = λ l. IsLosing (λ v. E v ⊎ By s Left o v) (λ v. M v ⊎ By s Moved o v) l in
      elim (asked next.0 (Give (given so_far next)) (lost_by p winner then_kept s reached o next so_far) ws lost rest) [
        | inl (empty, gives) ↦
            let same : lost ≡ given so_far next = Takes-give (given so_far next) lost ws gives in
            let was : so_far.known ≡ true = sym (ap (λ (l : Losing). l.known) same) ∙ known in
            let facts = set was in
            let never : (u : Values) → Plays p (o ∷ s) u → ⊥ = none_there o next.0 legal empty in (
              was,
              λ u plays. absurd (never u plays),
              subst Facts (sym same) (record {
                escape = where_map facts.escape (λ v. (λ h. inl h, λ h. elim h [ inl a ↦ a | inr b ↦ absurd (never (next_value s v b.0) b.1.0) ]));
                moves = where_map facts.moves (λ v. (λ h. inl h, λ h. elim h [ inl a ↦ a | inr b ↦ absurd (never (next_value s v b.0) b.1) ]));
              }),
            )
        | inr (some, goes) ↦
            let (a1, b1, inner, o1, t1, r1) = Takes-split (then_kept (o ∷ s) next)
            (λ (inner : Found). bind (is_known p winner (o ∷ s) next.0 inner.set)
            (λ (sure : Bool). bind (shorten_rest p winner s next.0 inner.set (so_far.escape, inner.at))
            (λ (escape : Made). bind (with_item (distances (length s)) tt (shortened (length s) next.0) (so_far.moves, escape.1))
            (λ (moves : Made). Give (ended so_far inner sure escape moves))))) ws lost goes in
            let (a2, b2, sure, o2, t2, r2) = Takes-split (is_known p winner (o ∷ s) next.0 inner.set)
            (λ (sure : Bool). bind (shorten_rest p winner s next.0 inner.set (so_far.escape, inner.at))
            (λ (escape : Made). bind (with_item (distances (length s)) tt (shortened (length s) next.0) (so_far.moves, escape.1))
            (λ (moves : Made). Give (ended so_far inner sure escape moves)))) b1 lost r1 in
            let (a3, b3, escape, o3, t3, r3) = Takes-split (shorten_rest p winner s next.0 inner.set (so_far.escape, inner.at))
            (λ (escape : Made). bind (with_item (distances (length s)) tt (shortened (length s) next.0) (so_far.moves, escape.1))
            (λ (moves : Made). Give (ended so_far inner sure escape moves))) b2 lost r2 in
            let (a4, b4, moves, o4, t4, r4) = Takes-split (with_item (distances (length s)) tt (shortened (length s) next.0) (so_far.moves, escape.1))
            (λ (moves : Made). Give (ended so_far inner sure escape moves)) b3 lost r3 in
            let same : lost ≡ ended so_far inner sure escape moves = Takes-give (ended so_far inner sure escape moves) lost b4 r4 in
            let all = both_known so_far.known (inner.known && sure) (sym (ap (λ (l : Losing). l.known) same) ∙ known) in
            let both = both_known inner.known sure all.1 in
            let facts = set all.0 in
            let is = later o next a1 inner listed legal t1 both.0 in
            let asks : (tuple : List ℤ) → Member next.0 tuple → Member (known_of (suc (length s)) inner.set) tuple = answered (Within next.0 (known_of (suc (length s)) inner.set)) sure a2 t2 both.1 in (
              all.0,
              sure_of o next.0 inner.set legal is asks,
              subst Facts (sym same) (record {
                escape = escapes E o next.0 inner.set (so_far.escape, inner.at) a3 escape legal is facts.escape t3;
                moves =
                    where_map (with_item_where tt (length s) (shortened (length s) next.0) (so_far.moves, escape.1) a4 moves facts.moves (free_shortened (length s)) t4) (λ v. (
                      λ h. elim h [ inl a ↦ inl a | inr b ↦ inr (b.0, (legal.same (next_value s v b.0)).0 b.1) ],
                      λ h. elim h [ inl a ↦ inl a | inr b ↦ inr (b.0, (legal.same (next_value s v b.0)).1 b.1) ],
                    ));
              }),
            )
      ]

  lost_options : (os : List Opt) (E M : Values → Type 0) (so_far : Losing) (xs : List (Entry (Unit {0}))) (lost : Losing) → ((o : Opt) → Contains os o → Contains (options_at p s) o)
      → Takes (each os (lose_option p winner then_kept s reached) so_far) xs (Some lost) → lost.known ≡ true → (so_far.known ≡ true → IsLosing E M so_far)
      → (so_far.known ≡ true) × ((o : Opt) → Contains os o → Sure o)
      × IsLosing (λ v. E v ⊎ AnyOf os (λ o. By s Left o v)) (λ v. M v ⊎ AnyOf os (λ o. By s Moved o v)) lost
  lost_options [] E M so_far xs lost listed t known set =
      let same : lost ≡ so_far = Takes-give so_far lost xs t in
      let was : so_far.known ≡ true = sym (ap (λ (l : Losing). l.known) same) ∙ known in
      let facts = set was in (
        was,
        λ o is. absurd (let less = is.1 in omega (arith, less)),
        subst (IsLosing (λ v. E v ⊎ ⊥) (λ v. M v ⊎ ⊥)) (sym same) (record {
          escape = where_map facts.escape (λ v. (λ h. inl h, λ h. elim h [ inl a ↦ a | inr b ↦ absurd b ]));
          moves = where_map facts.moves (λ v. (λ h. inl h, λ h. elim h [ inl a ↦ a | inr b ↦ absurd b ]));
        }),
      )
  lost_options (o ∷ os) E M so_far xs lost listed t known set =
      let (us, ws, next, order, first, rest) = Takes-split (lose_option p winner then_kept s reached o so_far) (each os (lose_option p winner then_kept s reached)) xs lost t in
      let step = λ (known_next : next.known ≡ true). lost_option E M o so_far us next (listed o (contains_head o os)) first known_next set in
      let more = lost_options os (λ v. E v ⊎ By s Left o v) (λ v. M v ⊎ By s Moved o v) next ws lost (λ c is. listed c (contains_rest o os c is)) rest known (λ k. (step k).2) in
      let here = step more.0 in (
        here.0,
        λ c is. elim (contains_cases o os c is) [ inl same ↦ subst Sure same here.1 | inr later ↦ more.1 c later ],
        record { escape = where_map more.2.escape (λ v. regroup); moves = where_map more.2.moves (λ v. regroup) },
      )
    where
      regroup : {A B C : Type 0} → ((A ⊎ B) ⊎ C) ↔ (A ⊎ (B ⊎ C))
      regroup = (
        λ h. elim h [ inl a ↦ elim a [ inl b ↦ inl b | inr c ↦ inr (inl c) ] | inr d ↦ inr (inr d) ],
        λ h. elim h [ inl a ↦ inl (inl a) | inr b ↦ elim b [ inl c ↦ inl (inr c) | inr d ↦ inr d ] ],
      )

  checks : List Bearing → Made → Program (Unit {0}) Made
  checks bs so_far = each (map (λ b. narrowed (length s) (bear_after p s b) reached) bs) (with_item (distances (length s)) tt) so_far

  Checked : Values → Bearing → Type 0
  Checked v b = Plays p s v × Holds (bear_after p s b) (members (λ _. Nothing)) v

  checks_where : (bs : List Bearing) (P : Values → Type 0) (so_far : Made) (xs : List (Entry (Unit {0}))) (made : Made) → IsSetWhere (length s) P so_far.0
      → Takes (checks bs so_far) xs (Some made) → IsSetWhere (length s) (λ v. P v ⊎ AnyOf bs (Checked v)) made.0
  unfolding checks Checked
  checks_where [] P so_far xs made set t =
      let same : made ≡ so_far = Takes-give so_far made xs t in
      subst (λ (m : Made). IsSetWhere (length s) (λ v. P v ⊎ ⊥) m.0) (sym same) (where_map set (λ v. (λ h. inl h, λ h. elim h [ inl a ↦ a | inr b ↦ absurd b ])))
  checks_where (b ∷ bs) P so_far xs made set t =
      let item : Item = narrowed (length s) (bear_after p s b) reached in
      let (us, ws, next, order, first, rest) = Takes-split (with_item (distances (length s)) tt item so_far) (checks bs) xs made t in
      let part = bear_is_part p s b in
      let one : IsSetWhere (length s) (λ v. P v ⊎ Checked v b) next.0 = where_map (with_item_where tt (length s) item so_far us next set (free_narrowed (length s) (bear_after p s b) part) first) (λ v. (
        λ h. elim h [ inl a ↦ inl a | inr c ↦ inr ((line.same v).0 c.0, Holds-no_set (bear_after p s b) (members (λ _. reached)) (members (λ _. Nothing)) v part.plain c.1) ],
        λ h. elim h [ inl a ↦ inl a | inr c ↦ inr ((line.same v).1 c.0, Holds-no_set (bear_after p s b) (members (λ _. Nothing)) (members (λ _. reached)) v part.plain c.1) ],
      )) in
      where_map (checks_where bs (λ v. P v ⊎ Checked v b) next ws made one rest) (λ v. (
        λ h. elim h [ inl a ↦ elim a [ inl c ↦ inl c | inr d ↦ inr (inl d) ] | inr e ↦ inr (inr e) ],
        λ h. elim h [ inl a ↦ inl (inl a) | inr c ↦ elim c [ inl d ↦ inl (inr d) | inr e ↦ inr e ] ],
      ))

  -- all that is in the set, and not in the other
  left_where : (A E : Values → Type 0) (all : Made) (escape : SetOf) (xs : List (Entry (Unit {0}))) (made : Made) → IsSetWhere (length s) A all.0 → IsSetWhere (length s) E escape
      → Takes (Ask (Empty (escape ∷ [])) (Give all) (make tt all.1 (difference (distances (length s)) all.0 escape))) xs (Some made)
      → IsSetWhere (length s) (λ v. A v × (E v → ⊥)) made.0
  left_where A E all escape xs made is none t =
      elim (asked escape (Give all) (make tt all.1 (difference (distances (length s)) all.0 escape)) xs made t) [
        | inl (empty, gives) ↦
            let same : made ≡ all = Takes-give all made xs gives in
            subst (λ (m : Made). IsSetWhere (length s) (λ v. A v × (E v → ⊥)) m.0) (sym same)
            (where_map is (λ v. (λ h. (h, λ e. empty (values_at (distances (length s)) v) ((none.same v).1 e)), λ h. h.0)))
        | inr (some, makes) ↦
            where_map (make_where tt (length s) all.1 (difference (distances (length s)) all.0 escape) xs made (free_difference (length s)) makes) (λ v. (
              λ h. ((is.same v).0 h.0, λ e. h.1 ((none.same v).1 e)),
              λ h. ((is.same v).1 h.0, λ m. h.1 ((none.same v).0 m)),
            ))
      ]

  abbrev ends : Losing → Made → Found
  ends lost left = record { set = left.0; at = left.1; known = lost.known }

  abbrev minus : Losing → Made → Program (Unit {0}) Made
  minus lost all = Ask (Empty (lost.escape ∷ [])) (Give all) (make tt all.1 (difference (distances (length s)) all.0 lost.escape))

  pub lose_kept : turn_at p s ≡ other winner → (at : ℕ) (xs : List (Entry (Unit {0}))) (found : Found) → Takes (lose p winner then_kept s reached at) xs (Some found) → found.known ≡ true
      → IsKept p winner n s found.set
  unfolding Left Moved Sure checks Checked
  lose_kept turn at xs found t known =
      let start : Losing = record { escape = Nothing; moves = Nothing; at = at; known = true } in
      let (a1, b1, lost, o1, t1, r1) = Takes-split (each (options_at p s) (lose_option p winner then_kept s reached) start)
      (λ (lost : Losing). bind (checks (threats_at p s) (Nothing, lost.at))
      (λ (check : Made). bind (join (distances (length s)) tt check.0 (lost.moves, check.1))
      (λ (all : Made). bind (minus lost all) (λ (left : Made). Give (ends lost left))))) xs found t in
      let (a2, b2, check, o2, t2, r2) = Takes-split (checks (threats_at p s) (Nothing, lost.at))
      (λ (check : Made). bind (join (distances (length s)) tt check.0 (lost.moves, check.1))
      (λ (all : Made). bind (minus lost all) (λ (left : Made). Give (ends lost left)))) b1 found r1 in
      let (a3, b3, all, o3, t3, r3) = Takes-split (join (distances (length s)) tt check.0 (lost.moves, check.1))
      (λ (all : Made). bind (minus lost all) (λ (left : Made). Give (ends lost left))) b2 found r2 in
      let (a4, b4, left, o4, t4, r4) = Takes-split (minus lost all) (λ (left : Made). Give (ends lost left)) b3 found r3 in
      let same : found ≡ ends lost left = Takes-give (ends lost left) found b4 r4 in
      let known_lost : lost.known ≡ true = sym (ap (λ (f : Found). f.known) same) ∙ known in
      let facts = lost_options (options_at p s) (λ v. ⊥) (λ v. ⊥) start a1 lost (λ o is. is) t1 known_lost (λ _. record { escape = nothing_where (length s); moves = nothing_where (length s) }) in
      let checked = checks_where (threats_at p s) (λ v. ⊥) (Nothing, lost.at) a2 check (nothing_where (length s)) t2 in
      let joined = join_where tt (length s) check.0 (lost.moves, check.1) a3 all checked facts.2.moves t3 in
      let rest = left_where (λ v. (⊥ ⊎ AnyOf (threats_at p s) (Checked v)) ⊎ (⊥ ⊎ AnyOf (options_at p s) (λ o. By s Moved o v))) (λ v. ⊥ ⊎ AnyOf (options_at p s) (λ o. By s Left o v))
      all lost.escape a4 left joined facts.2.escape t4 in
      let known_all = λ (o : Opt) (u : Values) (listed : Contains (options_at p s) o) (plays : Plays p (o ∷ s) u). facts.1 o listed u plays in
      let moved = λ (v : Values) (h : AnyOf (options_at p s) (λ o. By s Moved o v)).
      let (o, listed, (t, plays)) = any_in (options_at p s) (λ o. By s Moved o v) h in
      let m : SomeMove p s v (λ o u. Unit {0}) = record { option = o; distance = t; listed = listed; plays = plays; holds = tt } in m
      in
      let fled = λ (v : Values) (h : AnyOf (options_at p s) (λ o. By s Left o v)).
      let (o, listed, (t, plays)) = any_in (options_at p s) (λ o. By s Left o v) h in
      let m : SomeMove p s v (λ o u. ¬ Value winner n (after p (o ∷ s) u)) = record { option = o; distance = t; listed = listed; plays = plays.0; holds = plays.1 } in m
      in
      subst (λ (k : SetOf). IsKept p winner n s k) (sym (ap (λ (f : Found). f.set) same)) (where_map rest (λ v. (
        λ h.
            let none = λ (m : SomeMove p s v (λ o u. ¬ Value winner n (after p (o ∷ s) u))).
            h.1 (inr (in_any (options_at p s) (λ o. By s Left o v) m.option m.listed (m.distance, (m.plays, m.holds)))) in
            elim h.0 [
              | inl a ↦ elim a [
                | inl never ↦ absurd never
                | inr seen ↦
                    let (b, listed, (plays, bears)) = any_in (threats_at p s) (Checked v) seen in
                    let check = (bears_mean_check p s (λ _. Nothing) v sound (omega (arith, few)) plays).1 (b, listed, bears) in
                    (plays, (loser_moves p winner sound s v plays n turn known_all).1 (inl check, none))
              ]
              | inr a ↦ elim a [
                | inl never ↦ absurd never
                | inr moves ↦
                    let m = moved v moves in
                    let plays : Plays p s v = before_plays p s v m.distance m.plays.0 in
                    (plays, (loser_moves p winner sound s v plays n turn known_all).1 (inr m, none))
              ]
            ],
        λ h.
            let w = (loser_moves p winner sound s v h.0 n turn known_all).0 h.1 in (
              elim w.0 [
                | inl check ↦
                    let (b, listed, bears) = (bears_mean_check p s (λ _. Nothing) v sound (omega (arith, few)) h.0).0 check in
                    inl (inr (in_any (threats_at p s) (Checked v) b listed (h.0, bears)))
                | inr m ↦ inr (inr (in_any (options_at p s) (λ o. By s Moved o v) m.option m.listed (m.distance, m.plays)))
              ],
              λ e. elim e [ inl never ↦ never | inr left ↦ w.1 (fled v left) ],
            ),
      )))

module _ (p : Position) (winner : Side) (sound : Sound p) where
  Law : ℕ → Type 0
  Law left =
      (moves : ℕ) (s : List Opt) (next : Made) (xs : List (Entry (Unit {0}))) (found : Found) → length s + left ≤ 16 → left ≡ plies (turn_at p s) winner moves
      → IsLine p s next.0 → Takes (kept p winner left s next) xs (Some found) → found.known ≡ true → IsKept p winner moves s found.set

  his_plies : (turn : Side) (moves : ℕ) (b : Bool) → is_side turn winner ≡ b → plies turn winner moves ≡ (if b then 2 * moves else 2 * moves + 1)
  his_plies turn moves b e = ap (λ c. if c then 2 * moves else 2 * moves + 1) e

  kept_none : (b : Bool) (moves : ℕ) (s : List Opt) → is_side (turn_at p s) winner ≡ b → 0 ≡ (if b then 2 * moves else 2 * moves + 1) → IsKept p winner moves s Nothing
  kept_none true moves s e count =
      let none : moves ≡ 0 = omega (arith, count) in
      where_map (nothing_where (length s)) (λ v. (
        λ h. absurd h,
        λ h. none_left p winner sound s v h.0 (side_is (turn_at p s) winner e) (subst (λ k. Value winner k (after p s v)) none h.1),
      ))
  kept_none false moves s e count = absurd (omega (arith, count))

  kept_more : (left : ℕ) → Law left → (b : Bool) (moves : ℕ) (s : List Opt) (next : Made) (xs : List (Entry (Unit {0}))) (found : Found) → length s + suc left ≤ 16
      → is_side (turn_at p s) winner ≡ b → suc left ≡ (if b then 2 * moves else 2 * moves + 1) → IsLine p s next.0
      → Takes (kept_by p winner (kept p winner left) s next.0 b next.1) xs (Some found) → found.known ≡ true → IsKept p winner moves s found.set
  unfolding Law
  kept_more left law true zero s next xs found few e count line t known = absurd (omega (arith, count))
  kept_more left law true (suc moves) s next xs found few e count line t known =
      win_kept p winner sound s (omega (arith, few)) next.0 line (kept p winner left) moves
      (λ o more ys f listed legal u k.
      law moves (o ∷ s) more ys f (omega (arith, few)) (let w = his_plies (turn_at p (o ∷ s)) moves false (turned (turn_at p s) winner true e) in omega (arith, w, count)) legal u k)
      (side_is (turn_at p s) winner e) next.1 xs found t known
  kept_more left law false moves s next xs found few e count line t known =
      lose_kept p winner sound s (omega (arith, few)) next.0 line (kept p winner left) moves
      (λ o more ys f listed legal u k.
      law moves (o ∷ s) more ys f (omega (arith, few)) (let w = his_plies (turn_at p (o ∷ s)) moves true (turned (turn_at p s) winner false e) in omega (arith, w, count)) legal u k)
      (is_others (turn_at p s) winner e) next.1 xs found t known

  kept_law : (left : ℕ) → Law left
  unfolding Law
  kept_law zero moves s next xs found few count line t known =
      let same : found ≡ record { set = Nothing; at = next.1; known = true } = Takes-give (record { set = Nothing; at = next.1; known = true }) found xs t in
      subst (λ (k : SetOf). IsKept p winner moves s k) (sym (ap (λ (f : Found). f.set) same)) (kept_none (is_side (turn_at p s) winner) moves s refl count)
  kept_law (suc left) moves s next xs found few count line t known =
      kept_more left (kept_law left) (is_side (turn_at p s) winner) moves s next xs found few refl count line t known

pub kept_is_won : KeptIsWon
unfolding Law
kept_is_won p winner moves s l at entries found sound few line t known =
    kept_law p winner sound (plies (turn_at p s) winner moves) moves s (l, at) entries found few refl line t known

start_line : (p : Position) → IsLine p [] no_distance
start_line p =
    record {
      over = λ tuple h. (h.values, h.is_tuple);
      same = λ v. (λ h. tt, λ h. record { values = v; is_tuple = refl; holds = (pos 0, refl) });
    }

given_verdict : (known b mates : Bool) → Some mates ≡ (if known then Some b else None) → (known ≡ true) × (mates ≡ b)
given_verdict true b mates e = (refl, cc)
given_verdict false b mates e = absurd (cc)

few_plies : (turn winner : Side) (moves : ℕ) (b : Bool) → is_side turn winner ≡ b → moves ≤ 7 → plies turn winner moves ≤ 16
few_plies turn winner moves true e few = let w = his_plies_of turn winner moves true e in omega (arith, w, few)
  where
    his_plies_of : (turn winner : Side) (moves : ℕ) (b : Bool) → is_side turn winner ≡ b → plies turn winner moves ≡ (if b then 2 * moves else 2 * moves + 1)
    his_plies_of turn winner moves b e = ap (λ c. if c then 2 * moves else 2 * moves + 1) e
few_plies turn winner moves false e few =
    let w : plies turn winner moves ≡ 2 * moves + 1 = ap (λ c. if c then 2 * moves else 2 * moves + 1) e in omega (arith, w, few)

pub plan_decides : PlanDecides
plan_decides p winner moves entries mates sound few t =
    let (us, ws, found, order, first, rest) = Takes-split (kept p winner (plies p.turn winner moves) [] (no_distance, 1))
    (λ (found : Found). Ask (Has found.set []) (Give (if found.known then Some true else None)) (Give (if found.known then Some false else None))) entries (Some mates) t in
    let v : Values = λ _. pos 0 in
    let home = at_home p v in
    let short = few_plies p.turn winner moves (is_side p.turn winner) refl few in
    let limit : 0 + plies p.turn winner moves ≤ 16 = omega (arith, short) in
    let is = λ (known : found.known ≡ true). kept_is_won p winner moves [] no_distance 1 us found sound limit (start_line p) first known in
    by found ws rest (λ known. (
      λ m. subst (Value winner moves) home (((is known).same v).0 m).1,
      λ h. ((is known).same v).1 (tt, subst (Value winner moves) (sym home) h),
    ))
  where
    by : (found : Found) (xs : List (Entry (Unit {0})))
        → Takes (Ask (Has found.set []) (Give (if found.known then Some true else None)) (Give (if found.known then Some false else None))) xs (Some (Some mates))
        → (found.known ≡ true → Member found.set [] ↔ Value winner moves p) → IsTrue mates ↔ Value winner moves p
    by found xs (inl (e, o)) means = none_some o
    by found xs (inr (inl (has, t))) means =
        let w = given_verdict found.known true mates (Takes-give (if found.known then Some true else None) (Some mates) xs t) in
        (λ h. (means w.0).0 has, λ h. subst IsTrue (sym w.1) refl)
    by found xs (inr (inr (has_not, t))) means =
        let w = given_verdict found.known false mates (Takes-give (if found.known then Some false else None) (Some mates) xs t) in
        (λ h. absurd (let never : IsTrue false = subst IsTrue w.1 h in absurd (cc)), λ h. absurd (has_not ((means w.0).1 h)))
