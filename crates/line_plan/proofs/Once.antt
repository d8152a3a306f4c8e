-- The plan has one end, or one first step past a budget.
use Rattle.std.proofs.Common.{◌≡◌, ℕ, zero, suc, Bool, true, false, ◌&&◌, List, [], ◌∷◌, map, length, Option, ℤ, refl, ap, ◌∙◌, subst}
use Rattle.game_rules.specs.Game.{Position}
use Rattle.game_rules.specs.declared.men.Side.{Side}
use Rattle.lin_formula.specs.SetOf.{Member, Nothing, SetOf}
use Rattle.lin_formula.specs.Tree.{Tree, And, Among, Ex, Not, Or}
use Rattle.track_word.specs.declared.tracks.Var.{Var}
use Rattle.rule_formula.specs.declared.opt.Bearing.{Bearing}
use Rattle.rule_formula.specs.declared.opt.Opt.{Opt}
use Rattle.rule_formula.specs.Options.{is_side}
use Rattle.rule_formula.specs.Seats.{var}
use Rattle.line_formula.specs.Paths.{bear_after, first_part, further_parts, options_at, threats_at, turn_at}
use Rattle.set_plan.specs.Program.{Program, Item, Give, Ask, Empty, Has, Within, IsYes, bind, each}
use Rattle.set_plan.specs.Same.{SameItem, SameSets}
use Rattle.set_plan.specs.Unite.{Made, difference, join, make, two, unite, with_item}
use Rattle.set_plan.proofs.Alike.{Alike, SameSets-self}
use Rattle.set_plan.proofs.Combined.{Empty-alike, SameItems, SameMade, bind-alike, join-alike, make-alike, two-same, unite-alike}
use Rattle.set_plan.proofs.Folds.{each-alike}
use Rattle.set_plan.proofs.SameSets.{SameItem-sets}
use Rattle.set_plan.proofs.Unique.{Ends-not_stops, Ends-one, Stops-one}
use Rattle.line_plan.specs.Plan.{Found, Losing, distances, is_known, kept, kept_by, known_of, lose_option, lost_by, narrow, narrowed, no_distance, plan, plies, reach, shorten_rest, shortened, shortened_rest, verdict, win_option, won_by}
use Rattle.line_plan.specs.Laws.{PlanEndsOnce}

-- the same set, the same number, and both are known or neither
pub record SameFound (f g : Found) : Type 0 where
  pub sets : SameSets f.set g.set
  pub at : f.at ≡ g.at
  pub known : f.known ≡ g.known

record SameLosing (f g : Losing) : Type 0 where
  escape : SameSets f.escape g.escape
  moves : SameSets f.moves g.moves
  at : f.at ≡ g.at
  known : f.known ≡ g.known

made_same : (s t : SetOf) (m n : ℕ) → SameSets s t → m ≡ n → SameMade (s, m) (t, n)
made_same s t m n sets at = record { sets = sets; at = at }

make_at : (m n : ℕ) (i j : Item) → m ≡ n → SameItem i j → Alike SameMade (make {P = Unit {0}} tt m i) (make tt n j)
make_at m n i j at item = subst (λ k. Alike SameMade (make {P = Unit {0}} tt m i) (make tt k j)) at (make-alike tt m i j item)

narrow_alike : (n : ℕ) (part : Tree) (a b : Made) → SameMade a b → Alike SameMade (narrow n part a) (narrow n part b)
narrow_alike n part a b same =
    make_at a.1 b.1 (narrowed n part a.0) (narrowed n part b.0) same.at (SameItem-sets (And (Among 0 (distances n)) part) (λ _. a.0) (λ _. b.0) (λ k. same.sets))

item_alike : (tracks : List Var) (i j : Item) (a b : Made) → SameItem i j → SameMade a b → Alike SameMade (with_item {P = Unit {0}} tracks tt i a) (with_item tracks tt j b)
item_alike tracks i j a b item same =
    bind-alike SameMade SameMade (make tt a.1 i) (make tt b.1 j) (join tracks tt a.0) (join tracks tt b.0) (make_at a.1 b.1 i j same.at item)
    (λ m n rel. join-alike tracks tt a.0 b.0 m n same.sets rel)

and_same : (a b c d : Bool) → a ≡ b → c ≡ d → (a && c) ≡ (b && d)
and_same a b c d e f = ap (λ x. x && c) e ∙ ap (λ x. b && x) f

module _ (p : Position) (winner : Side) where
  reach_alike : (s : List Opt) (o : Opt) (a b : Made) → SameMade a b → Alike SameMade (reach p winner s o a) (reach p winner s o b)
  reach_alike s o a b same =
      bind-alike SameMade SameMade (narrow (length s) (first_part p s o) a) (narrow (length s) (first_part p s o) b)
      (each (further_parts p s o) (narrow (suc (length s)))) (each (further_parts p s o) (narrow (suc (length s))))
      (narrow_alike (length s) (first_part p s o) a b same)
      (λ m n rel. each-alike SameMade (narrow (suc (length s))) (narrow (suc (length s))) (λ part x y r. narrow_alike (suc (length s)) part x y r) (further_parts p s o) m n rel)

  rest_alike : (s : List Opt) (l m k j : SetOf) (a b : Made) → SameSets l m → SameSets k j → SameMade a b → Alike SameMade (shorten_rest p winner s l k a) (shorten_rest p winner s m j b)
  rest_alike s l m k j a b reached kept_same same = (
    Empty-alike k j kept_same,
    item_alike (distances (length s)) (shortened (length s) l) (shortened (length s) m) a b
        (SameItem-sets (Ex (var (length s)) (Among 0 (distances (suc (length s))))) (λ _. l) (λ _. m) (λ _. reached)) same,
    item_alike (distances (length s)) (shortened_rest (length s) l k) (shortened_rest (length s) m j) a b
        (SameItem-sets (Ex (var (length s)) (And (Among 0 (distances (suc (length s)))) (Not (Among 1 (distances (suc (length s))))))) (two l k) (two m j)
        (two-same l m k j reached kept_same)) same,
  )

  known_alike : (s : List Opt) (l m k j : SetOf) → SameSets l m → SameSets k j → Alike (λ (a b : Bool). a ≡ b) (is_known p winner s l k) (is_known p winner s m j)
  known_alike s l m k j reached kept_same =
      let told = (SameItem-sets (Or (Among 0 (distances (length s))) (Not (Among 0 (distances (length s))))) (λ _. k) (λ _. j) (λ _. kept_same)).members in
      let forth = λ (h : IsYes (Within l (known_of (length s) k))) (tuple : List ℤ) (is : Member m tuple). (told tuple).0 (h tuple ((reached tuple).1 is)) in
      let back = λ (h : IsYes (Within m (known_of (length s) j))) (tuple : List ℤ) (is : Member l tuple). (told tuple).1 (h tuple ((reached tuple).0 is)) in (
        record { yes = (forth, back); no = (λ h k. h (back k), λ h k. h (forth k)) },
        refl,
        refl,
      )

  module _ (then_kept : List Opt → Made → Program (Unit {0}) Found) (on : (s : List Opt) (a b : Made) → SameMade a b → Alike SameFound (then_kept s a) (then_kept s b)) (s : List Opt) (l m : SetOf) (reached : SameSets l m) where
    win_alike : (o : Opt) (f g : Found) → SameFound f g → Alike SameFound (win_option p winner then_kept s l o f) (win_option p winner then_kept s m o g)
    win_alike o f g same =
        bind-alike SameMade SameFound (reach p winner s o (l, f.at)) (reach p winner s o (m, g.at))
        (λ (next : Made). Ask (Empty (next.0 ∷ [])) (Give (record { set = f.set; at = next.1; known = f.known })) (won_by p winner then_kept s l o next f))
        (λ (next : Made). Ask (Empty (next.0 ∷ [])) (Give (record { set = g.set; at = next.1; known = g.known })) (won_by p winner then_kept s m o next g))
        (reach_alike s o (l, f.at) (m, g.at) (made_same l m f.at g.at reached same.at))
        (λ a b rel. (
          Empty-alike a.0 b.0 rel.sets,
          record { sets = same.sets; at = rel.at; known = same.known },
          bind-alike SameFound SameFound (then_kept (o ∷ s) a) (then_kept (o ∷ s) b)
              (λ (inner : Found). bind (with_item (distances (length s)) tt (shortened (length s) inner.set) (f.set, inner.at)) (λ (made : Made). Give (record { set = made.0; at = made.1; known = f.known && inner.known })))
              (λ (inner : Found). bind (with_item (distances (length s)) tt (shortened (length s) inner.set) (g.set, inner.at)) (λ (made : Made). Give (record { set = made.0; at = made.1; known = g.known && inner.known })))
              (on (o ∷ s) a b rel)
              (λ x y r.
              bind-alike SameMade SameFound (with_item (distances (length s)) tt (shortened (length s) x.set) (f.set, x.at)) (with_item (distances (length s)) tt (shortened (length s) y.set) (g.set, y.at))
              (λ (made : Made). Give (record { set = made.0; at = made.1; known = f.known && x.known })) (λ (made : Made). Give (record { set = made.0; at = made.1; known = g.known && y.known }))
              (item_alike (distances (length s)) (shortened (length s) x.set) (shortened (length s) y.set) (f.set, x.at) (g.set, y.at)
              (SameItem-sets (Ex (var (length s)) (Among 0 (distances (suc (length s))))) (λ _. x.set) (λ _. y.set) (λ _. r.sets)) (made_same f.set g.set x.at y.at same.sets r.at))
              (λ u w q. record { sets = q.sets; at = q.at; known = and_same f.known g.known x.known y.known same.known r.known })),
        ))

    ended : Losing → Found → Bool → Made → Made → Losing
    ended so_far inner sure escape moves = record { escape = escape.0; moves = moves.0; at = moves.1; known = so_far.known && (inner.known && sure) }

    lose_alike : (o : Opt) (f g : Losing) → SameLosing f g → Alike SameLosing (lose_option p winner then_kept s l o f) (lose_option p winner then_kept s m o g)
    unfolding ended
    lose_alike o f g same =
        bind-alike SameMade SameLosing (reach p winner s o (l, f.at)) (reach p winner s o (m, g.at))
        (λ (next : Made). Ask (Empty (next.0 ∷ [])) (Give (record { escape = f.escape; moves = f.moves; at = next.1; known = f.known })) (lost_by p winner then_kept s l o next f))
        (λ (next : Made). Ask (Empty (next.0 ∷ [])) (Give (record { escape = g.escape; moves = g.moves; at = next.1; known = g.known })) (lost_by p winner then_kept s m o next g))
        (reach_alike s o (l, f.at) (m, g.at) (made_same l m f.at g.at reached same.at))
        (λ a b rel. (
          Empty-alike a.0 b.0 rel.sets,
          record { escape = same.escape; moves = same.moves; at = rel.at; known = same.known },
          bind-alike SameFound SameLosing (then_kept (o ∷ s) a) (then_kept (o ∷ s) b)
              (λ (inner : Found). bind (is_known p winner (o ∷ s) a.0 inner.set) (λ (sure : Bool). bind (shorten_rest p winner s a.0 inner.set (f.escape, inner.at))
              (λ (escape : Made). bind (with_item (distances (length s)) tt (shortened (length s) a.0) (f.moves, escape.1)) (λ (moves : Made). Give (ended f inner sure escape moves)))))
              (λ (inner : Found). bind (is_known p winner (o ∷ s) b.0 inner.set) (λ (sure : Bool). bind (shorten_rest p winner s b.0 inner.set (g.escape, inner.at))
              (λ (escape : Made). bind (with_item (distances (length s)) tt (shortened (length s) b.0) (g.moves, escape.1)) (λ (moves : Made). Give (ended g inner sure escape moves)))))
              (on (o ∷ s) a b rel)
              (λ x y r.
              bind-alike (λ (c d : Bool). c ≡ d) SameLosing (is_known p winner (o ∷ s) a.0 x.set) (is_known p winner (o ∷ s) b.0 y.set)
              (λ (sure : Bool). bind (shorten_rest p winner s a.0 x.set (f.escape, x.at)) (λ (escape : Made). bind (with_item (distances (length s)) tt (shortened (length s) a.0) (f.moves, escape.1)) (λ (moves : Made). Give (ended f x sure escape moves))))
              (λ (sure : Bool). bind (shorten_rest p winner s b.0 y.set (g.escape, y.at)) (λ (escape : Made). bind (with_item (distances (length s)) tt (shortened (length s) b.0) (g.moves, escape.1)) (λ (moves : Made). Give (ended g y sure escape moves))))
              (known_alike (o ∷ s) a.0 b.0 x.set y.set rel.sets r.sets)
              (λ c d sure.
              bind-alike SameMade SameLosing (shorten_rest p winner s a.0 x.set (f.escape, x.at)) (shorten_rest p winner s b.0 y.set (g.escape, y.at))
              (λ (escape : Made). bind (with_item (distances (length s)) tt (shortened (length s) a.0) (f.moves, escape.1)) (λ (moves : Made). Give (ended f x c escape moves)))
              (λ (escape : Made). bind (with_item (distances (length s)) tt (shortened (length s) b.0) (g.moves, escape.1)) (λ (moves : Made). Give (ended g y d escape moves)))
              (rest_alike s a.0 b.0 x.set y.set (f.escape, x.at) (g.escape, y.at) rel.sets r.sets (made_same f.escape g.escape x.at y.at same.escape r.at))
              (λ e h esc.
              bind-alike SameMade SameLosing (with_item (distances (length s)) tt (shortened (length s) a.0) (f.moves, e.1)) (with_item (distances (length s)) tt (shortened (length s) b.0) (g.moves, h.1))
              (λ (moves : Made). Give (ended f x c e moves)) (λ (moves : Made). Give (ended g y d h moves))
              (item_alike (distances (length s)) (shortened (length s) a.0) (shortened (length s) b.0) (f.moves, e.1) (g.moves, h.1)
              (SameItem-sets (Ex (var (length s)) (Among 0 (distances (suc (length s))))) (λ _. a.0) (λ _. b.0) (λ _. rel.sets)) (made_same f.moves g.moves e.1 h.1 same.moves esc.at))
              (λ u w q. record { escape = esc.sets; moves = q.sets; at = q.at; known = and_same f.known g.known (x.known && c) (y.known && d) same.known (and_same x.known y.known c d r.known sure) })))),
        ))

    checks_same : (bs : List Bearing) → SameItems (map (λ b. narrowed (length s) (bear_after p s b) l) bs) (map (λ b. narrowed (length s) (bear_after p s b) m) bs)
    checks_same [] = tt
    checks_same (b ∷ bs) = (SameItem-sets (And (Among 0 (distances (length s))) (bear_after p s b)) (λ _. l) (λ _. m) (λ _. reached), checks_same bs)

    left_alike : (a b : Made) (e f : SetOf) → SameMade a b → SameSets e f
        → Alike SameMade (Ask (Empty (e ∷ [])) (Give a) (make {P = Unit {0}} tt a.1 (difference (distances (length s)) a.0 e))) (Ask (Empty (f ∷ [])) (Give b) (make tt b.1 (difference (distances (length s)) b.0 f)))
    left_alike a b e f same escape = (
      Empty-alike e f escape,
      same,
      make_at a.1 b.1 (difference (distances (length s)) a.0 e) (difference (distances (length s)) b.0 f) same.at
          (SameItem-sets (And (Among 0 (distances (length s))) (Not (Among 1 (distances (length s))))) (two a.0 e) (two b.0 f) (two-same a.0 b.0 e f same.sets escape)),
    )

    abbrev finish : Losing → Made → Found
    finish lost left = record { set = left.0; at = left.1; known = lost.known }

    abbrev minus : Losing → Made → Program (Unit {0}) Made
    minus lost all = Ask (Empty (lost.escape ∷ [])) (Give all) (make tt all.1 (difference (distances (length s)) all.0 lost.escape))

    abbrev after_all : Losing → Made → Program (Unit {0}) Found
    after_all lost all = bind (minus lost all) (λ left. Give (finish lost left))

    abbrev after_check : Losing → Made → Program (Unit {0}) Found
    after_check lost check = bind (join (distances (length s)) tt check.0 (lost.moves, check.1)) (after_all lost)

    abbrev checks : Losing → SetOf → Program (Unit {0}) Made
    checks lost k = unite (distances (length s)) tt (Nothing, lost.at) (map (λ b. narrowed (length s) (bear_after p s b) k) (threats_at p s))

    abbrev after_lost : SetOf → Losing → Program (Unit {0}) Found
    after_lost k lost = bind (checks lost k) (after_check lost)

    by_alike : (his : Bool) (at other_at : ℕ) → at ≡ other_at → Alike SameFound (kept_by p winner then_kept s l his at) (kept_by p winner then_kept s m his other_at)
    by_alike true at other_at same =
        each-alike SameFound (win_option p winner then_kept s l) (win_option p winner then_kept s m) win_alike (options_at p s)
        (record { set = Nothing; at = at; known = true }) (record { set = Nothing; at = other_at; known = true }) (record { sets = SameSets-self Nothing; at = same; known = refl })
    by_alike false at other_at same =
        let start = λ (k : ℕ). let f : Losing = record { escape = Nothing; moves = Nothing; at = k; known = true } in f in
        bind-alike SameLosing SameFound (each (options_at p s) (lose_option p winner then_kept s l) (start at)) (each (options_at p s) (lose_option p winner then_kept s m) (start other_at)) (after_lost l) (after_lost m)
        (each-alike SameLosing (lose_option p winner then_kept s l) (lose_option p winner then_kept s m) lose_alike (options_at p s) (start at) (start other_at)
        (record { escape = SameSets-self Nothing; moves = SameSets-self Nothing; at = same; known = refl }))
        (λ f g lost.
        bind-alike SameMade SameFound (checks f l) (checks g m) (after_check f) (after_check g)
        (unite-alike (distances (length s)) tt (Nothing, f.at) (Nothing, g.at) (map (λ b. narrowed (length s) (bear_after p s b) l) (threats_at p s)) (map (λ b. narrowed (length s) (bear_after p s b) m) (threats_at p s))
        (made_same Nothing Nothing f.at g.at (SameSets-self Nothing) lost.at) (checks_same (threats_at p s)))
        (λ a b check.
        bind-alike SameMade SameFound (join (distances (length s)) tt a.0 (f.moves, a.1)) (join (distances (length s)) tt b.0 (g.moves, b.1)) (after_all f) (after_all g)
        (join-alike (distances (length s)) tt a.0 b.0 (f.moves, a.1) (g.moves, b.1) check.sets (made_same f.moves g.moves a.1 b.1 lost.moves check.at))
        (λ c d all.
        bind-alike SameMade SameFound (minus f c) (minus g d) (λ (left : Made). Give (finish f left)) (λ (left : Made). Give (finish g left))
        (left_alike c d f.escape g.escape all lost.escape)
        (λ x y left. record { sets = left.sets; at = left.at; known = lost.known }))))

  -- from sets of the same tuples the same is kept
  pub kept_alike : (left : ℕ) (s : List Opt) (a b : Made) → SameMade a b → Alike SameFound (kept p winner left s a) (kept p winner left s b)
  kept_alike zero s a b same = record { sets = SameSets-self Nothing; at = same.at; known = refl }
  kept_alike (suc left) s a b same = by_alike (kept p winner left) (kept_alike left) s a.0 b.0 same.sets (is_side (turn_at p s) winner) a.1 b.1 same.at

  plan_alike : (moves : ℕ) → Alike (λ (a b : Option Bool). a ≡ b) (plan p winner moves) (plan p winner moves)
  plan_alike moves =
      bind-alike SameFound (λ (a b : Option Bool). a ≡ b) (kept p winner (plies p.turn winner moves) [] (no_distance, 1)) (kept p winner (plies p.turn winner moves) [] (no_distance, 1))
      (λ (f : Found). Ask (Has f.set []) (Give (verdict p winner f.known true)) (Give (verdict p winner f.known false)))
      (λ (f : Found). Ask (Has f.set []) (Give (verdict p winner f.known true)) (Give (verdict p winner f.known false)))
      (kept_alike (plies p.turn winner moves) [] (no_distance, 1) (no_distance, 1) (made_same no_distance no_distance 1 1 (SameSets-self no_distance) refl))
      (λ f g same. (
        record { yes = same.sets []; no = (λ h k. h ((same.sets []).1 k), λ h k. h ((same.sets []).0 k)) },
        ap (λ k. verdict p winner k true) same.known,
        ap (λ k. verdict p winner k false) same.known,
      ))

pub plan_ends_once : PlanEndsOnce
plan_ends_once p winner moves budget =
    let same = plan_alike p winner moves in
    record {
      one_end = λ a b h k. Ends-one (λ (a b : Option Bool). a ≡ b) (plan p winner moves) (plan p winner moves) budget same a b h k;
      one_step = λ x y h k. Stops-one (λ (a b : Option Bool). a ≡ b) (plan p winner moves) (plan p winner moves) budget same x y h k;
      not_both = λ a x h k. Ends-not_stops (λ (a b : Option Bool). a ≡ b) (plan p winner moves) (plan p winner moves) budget same a x h k;
    }
