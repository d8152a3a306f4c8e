-- One level of what is won, and one of what is lost.
use Rattle.std.proofs.Common.{◌≡◌, ◌⊎◌, ℕ, suc, Some, inl, inr, sym, ap, ◌∙◌, subst}
use Rattle.game_rules.specs.Game.{HasOneKing, Lost, Moves, Position, StandsOn, Win, man_at, other}
use Rattle.game_rules.specs.declared.men.Kind.TheVariants.{King}
use Rattle.game_rules.specs.declared.men.Man.{Man}
use Rattle.game_rules.specs.declared.men.Ray.{Ray}
use Rattle.game_rules.specs.declared.men.Side.{Side}
use Rattle.game_rules.specs.declared.men.Square.{Square}
use Rattle.game_laws.proofs.SoundLemmas.{legal_sound, other_differs, other_other}
use Rattle.lin_formula.specs.SetOf.{SetOf}
use Rattle.mask_sets.specs.Stock.{mask_of}
use Rattle.mask_sets.specs.Tuple.{tuple_of}
use Rattle.rule_formula.specs.Bearings.{king_number}
use Rattle.rule_formula.specs.Fits.{Fits, masks_of}
use Rattle.rule_formula.specs.Mean.{HoldsFitting, RulesMean, mask_tracks}
use Rattle.rule_formula.specs.Trees.{ray_at}
use Rattle.rule_formula.proofs.PointTracks.{place_there}
use Rattle.set_plan.specs.Program.{Takes}
use Rattle.set_plan.proofs.Composition.{Takes-split}
use Rattle.set_plan.proofs.Takings.{difference_set-members}
use Rattle.mate_plan.specs.Plan.{Level, for_masks, lost_set_if_by, name, no_sets, rest_set, win_level, win_set}
use Rattle.mate_plan.specs.PlanOf.{rules_of}
use Rattle.mate_plan.specs.declared.names.Part.TheVariants as kind
use Rattle.winning_sets.specs.PlanMeans.{IsDecided, IsLevelOf}
use Rattle.winning_sets.proofs.KeptBounds.{level-of, lost_within_if, union_pre}
use Rattle.winning_sets.proofs.KeptParts.{IsSafe, Positions, Rest, StepsTo-moves, lost-part, win-part}
use Rattle.winning_sets.proofs.KeptSets.{Entries, Stands, difference-stands, for_masks-level, game_mask, in_masks, lost_or_empty, win-stands}
use Rattle.table_plan.specs.Table.{Universe, into_by, lost_level, moved_levels}
use Rattle.table_plan.specs.TableMeans.{AllAt0, IsOfStock, IsStock, KingStandsOn, LostAt0, WonAt0, moved_from, origin}
use Rattle.table_plan.proofs.KingSteps.{king_in, king_stays}
use Rattle.game_laws.proofs.BoardMaps.{negated, shift_keeps}
use Rattle.game_forever.specs.Centre.{IsMovable}
use Rattle.table_plan.proofs.MovedBack.{from_moved, king_to_origin}
use Rattle.table_plan.proofs.MovedLevels.{At0, leads_into}
use Rattle.table_plan.proofs.MovedSets.{moved_stock}
use Rattle.table_plan.proofs.Universes.{IsAll, fits_of}

module _ (p : Position) (winner : Side) (stock : IsStock winner p) (mean : RulesMean p) where
  abbrev loser : Side
  loser = other winner

  abbrev king : ℕ
  king = king_number p.men loser

  abbrev ray : ℕ → Ray
  ray n = ray_at p.men king n

  pub record IsWon (k : ℕ) (level : Level) : Type 0 where
    pub stands : Stands p winner level (WonAt0 winner p k)
    pub fitting : (m : ℕ) → HoldsFitting p winner m (level m)

  pub record IsLost (k : ℕ) (level : Level) : Type 0 where
    pub stands : Stands p loser level (LostAt0 winner p k)
    pub fitting : (m : ℕ) → HoldsFitting p loser m (level m)

  pub record IsUniverse (u : Universe) : Type 0 where
    pub ours : IsAll p winner stock mean winner u.winner
    pub theirs : IsAll p winner stock mean loser u.loser
    pub entries : Entries
    pub moved : Takes (moved_levels (rules_of p) 0 ray u.winner) entries (Some u.moved)

  -- a move leads to a sound position of the stock
  pub after_move : (side : Side) (q next : Position) → IsOfStock p side q → Moves q next → IsOfStock p (other side) next
  after_move side q next of moves =
      let fits = fits_of p winner stock mean side q of in
      let (o, i, takes) = (mean.game.steps side q next fits of.sound).0 (StepsTo-moves q next moves) in
      let (mask, fits_next) = mean.game.target side o q next fits i takes in
      record { stock = fits_next.stock; turn = fits_next.turn; sound = legal_sound q moves.0 moves.1 next of.sound moves.2 }

  safe_of : (side : Side) (q : Position) → IsOfStock p side q → IsSafe q
  safe_of side q of = of.sound.other_safe

  pub won-zero : IsWon 0 no_sets
  won-zero = record {
    stands = λ q fits. (λ h. absurd h, λ h. absurd h.win);
    fitting = λ m tuple h. absurd h;
  }

  -- the winner's move leaves the loser's king where it is
  lost_after : (k : ℕ) (q next : Position) → AllAt0 winner p winner q → Moves q next → Lost winner k next → LostAt0 winner p k next
  lost_after k q next all moves loses =
      let of = after_move winner q next all.of moves in
      let step = moves.2.step in
      let off = λ (j : ℕ) (m : Man) (is : man_at q j ≡ Some m) (his : m.side ≡ loser) (sort : m.kind ≡ King) (same : j ≡ moves.0).
      let there : man_at q j ≡ Some step.man = subst (λ i. man_at q i ≡ Some step.man) (sym same) step.is_man in
      let both : Some m ≡ Some step.man = sym is ∙ there in
      let man : m ≡ step.man = cc in
      let side : m.side ≡ winner = ap (λ (a : Man). a.side) man ∙ (step.his_turn ∙ all.of.turn) in
      other_differs winner (sym side ∙ his) in
      record {
        all = record { of = of; king = king_stays origin step.after (king_in stock.king of.stock of.sound.kings) off all.king };
        lost = loses;
      }

  -- a level of what is won, from that of what is lost
  pub won-next : (k ply : ℕ) (u : Universe) (lost level : Level) (xs : Entries) → IsUniverse u → IsLost k lost
      → Takes (win_level (rules_of p) winner ply u.winner lost) xs (Some level) → IsWon (suc k) level
  won-next k ply u lost level xs is is_lost t =
      let stands = win-stands p mean winner ply u.winner lost level xs (AllAt0 winner p winner) (LostAt0 winner p k) (λ q h. h.of.sound) is.ours.stands is_lost.stands t in
      let part =
      win-part winner k (AllAt0 winner p winner) (LostAt0 winner p k) (λ q h. h.of.turn) (λ q h. safe_of loser q h.all.of) (λ q h. h.lost)
      (lost_after k) in
      let f = win_set (rules_of p) winner ply u.winner lost in
      record {
        stands = λ q fits. (
          λ h. let (all, win) = (part q).0 ((stands q fits).0 h) in record { all = all; win = win },
          λ h. (stands q fits).1 ((part q).1 (h.all, h.win)),
        );
        fitting = λ m. for_masks-level f (HoldsFitting p winner) (masks_of p)
            (λ m i s ys made tuple h. is.ours.fitting m tuple (union_pre p stock.game.few mean winner ply kind.Win (u.winner m) (λ _. lost) s ys (game_mask p mean m i) made tuple h))
            no_sets level xs t m (inl (λ tuple h. absurd h));
      }

  module _ (k : ℕ) where
    -- a position of the stock that is won, wherever the king stands
    record WonOf (q : Position) : Type 0 where
      of : IsOfStock p winner q
      win : Win winner k q

    pub of_movable : (side : Side) → IsMovable (IsOfStock p side)
    of_movable side dx dy q h = record { stock = moved_stock dx dy p.men q h.stock; turn = h.turn; sound = ((shift_keeps dx dy).sound q).0 h.sound }

    won_movable : IsMovable WonOf
    won_movable dx dy q h = record { of = of_movable winner dx dy q h.of; win = ((shift_keeps dx dy).win winner k q).0 h.win }

    rest_movable : IsMovable (Rest (IsOfStock p winner) WonOf)
    rest_movable dx dy q h = record {
      is_in = of_movable winner dx dy q h.is_in;
      not_in = λ w. h.not_in (from_moved WonOf won_movable dx dy q w);
    }

    -- the square of the loser's king
    pub king_square : (q : Position) → IsOfStock p winner q → (z : Square) × KingStandsOn loser z q
    king_square q of =
        let had : HasOneKing q loser = king_in stock.king of.stock of.sound.kings in
        let (z, on) = place_there had.king had.live in (
          z,
          λ j m is his sort.
              let number : j ≡ had.number = had.only j m is his sort in
              let there : man_at q j ≡ Some had.king = subst (λ i. man_at q i ≡ Some had.king) (sym number) had.is_man in
              let both : Some m ≡ Some had.king = sym is ∙ there in
              let same : m ≡ had.king = cc in
              subst (λ a. StandsOn a z) (sym same) on,
        )

    -- of each position of the stock it is known whether it is won
    won_or_not : (won : Level) → IsWon k won → ((m : ℕ) → IsDecided (won m)) → (q : Position) → IsOfStock p winner q → WonOf q ⊎ (WonOf q → ⊥)
    won_or_not won is decided q of =
        let (z, on) = king_square q of in
        let from : Position = moved_from z q in
        let of_from = of_movable winner (negated z.x) (negated z.y) q of in
        let all : AllAt0 winner p winner from = record { of = of_from; king = king_to_origin loser z q on } in
        let stands = is.stands from (fits_of p winner stock mean winner from of_from) in
        elim (decided (mask_of from) (tuple_of from)) [
          | inl a ↦
              let w : WonAt0 winner p k from = stands.0 a in
              inl (from_moved WonOf won_movable (negated z.x) (negated z.y) q (record { of = of_from; win = w.win }))
          | inr n ↦ inr (λ w.
              let there : WonOf from = won_movable (negated z.x) (negated z.y) q w in
              n (stands.1 (record { all = all; win = there.win })))
        ]

    -- a level of what is lost, from that of what is won
    pub lost-next : (u : Universe) (won level : Level) (xs : Entries) → IsUniverse u → IsWon k won → ((m : ℕ) → IsDecided (won m))
        → Takes (lost_level winner p k u won) xs (Some level) → IsLost k level
    lost-next u won level xs is is_won decided t =
        let rest_of = rest_set (rules_of p) k u.winner won in
        let (a1, b1, rests, order, t1, r1) = Takes-split (for_masks (masks_of p) rest_of no_sets) _ xs level t in
        let (a2, b2, moved, order, t2, r2) = Takes-split (moved_levels (rules_of p) (suc k) ray rests) _ b1 level r1 in
        let reply = into_by (rules_of p) king u.winner u.moved in
        let escape = into_by (rules_of p) king rests moved in
        let After : Positions = IsOfStock p winner in
        let Left : Positions = Rest (IsOfStock p winner) WonOf in
        let turned = λ (r : Position) (fits : Fits p (other loser) r). subst (λ s. Fits p s r) (other_other winner) fits in
        let all_stands : Stands p winner u.winner (At0 p winner stock mean After) = λ q fits. (
          λ h. let a = (is.ours.stands q fits).0 h in record { is_in = a.of; king = a.king },
          λ h. (is.ours.stands q fits).1 (record { of = h.is_in; king = h.king }),
        ) in
        let IsRest : ℕ → SetOf → Type 0 = λ m s. (ys : Entries) × Takes (rest_of m) ys (Some s) in
        let rest_stands : Stands p winner rests (At0 p winner stock mean Left) = λ q fits.
        let (ys, made) = for_masks-level rest_of IsRest (masks_of p) (λ m i s zs h. (zs, h)) no_sets rests a1 t1 (mask_of q) (inr (in_masks p mean winner q fits)) in
        let both =
        difference-stands p mean k kind.Rest q (u.winner (mask_of q)) (won (mask_of q)) (rests (mask_of q)) ys (AllAt0 winner p winner) (WonAt0 winner p k)
        (is.ours.over (mask_of q)) (is.ours.stands q fits) (is_won.stands q fits) made in (
          λ h.
              let w = both.0 h in
              record { is_in = record { is_in = w.is_in.of; not_in = λ c. w.not_in (record { all = w.is_in; win = c.win }) }; king = w.is_in.king },
          λ h. both.1 (record { is_in = record { of = h.is_in.is_in; king = h.king }; not_in = λ c. h.is_in.not_in (record { of = c.all.of; win = c.win }) }),
        ) in
        let rest_fitting : (m : ℕ) → HoldsFitting p winner m (rests m) = λ m.
        for_masks-level rest_of (HoldsFitting p winner) (masks_of p)
        (λ m i s ys made tuple h.
        is.ours.fitting m tuple
        ((difference_set-members (mask_tracks p m) (name k m kind.Rest) (mean.game.tracks m 0 1) (u.winner m) (won m) ys s (is.ours.over m) made tuple).0 h).0)
        no_sets rests a1 t1 m (inl (λ tuple h. absurd h)) in
        let all_is : IsLevelOf (At0 p winner stock mean After) u.winner =
        level-of p winner (At0 p winner stock mean After) u.winner (λ q h. fits_of p winner stock mean winner q h.is_in) all_stands is.ours.fitting in
        let rest_is : IsLevelOf (At0 p winner stock mean Left) rests =
        level-of p winner (At0 p winner stock mean Left) rests (λ q h. fits_of p winner stock mean winner q h.is_in.is_in) rest_stands rest_fitting in
        let f = lost_set_if_by (rules_of p) loser k u.loser reply escape in
        let Is : ℕ → SetOf → Type 0 = λ m s. (ys : Entries) × Takes (f m) ys (Some s) in
        let Here : Positions = AllAt0 winner p loser in
        let part =
        lost-part winner k Here After WonOf (λ q h. h.of.turn) (λ q h. h.of.sound) (λ q h. h.sound.other_safe)
        (λ q next h moves. subst (λ s. IsOfStock p s next) (other_other winner) (after_move loser q next h.of moves))
        (λ q. (λ h. (h.of, h.win), λ h. record { of = h.0; win = h.1 }))
        (won_or_not won is_won decided) in
        record {
          stands = λ q fits.
              let (ys, made) = for_masks-level f Is (masks_of p) (λ m i s zs h. (zs, h)) no_sets level b2 r2 (mask_of q) (inr (in_masks p mean loser q fits)) in
              let stands =
              lost_or_empty p mean k u.loser reply escape (level (mask_of q)) ys Here After WonOf fits (λ h. h.of.sound) (is.theirs.over (mask_of q)) (is.theirs.stands q fits)
              (λ o r i here takes fits_r. leads_into p winner stock mean After (λ x h. h) (of_movable winner) u.winner 0 u.moved is.entries all_stands all_is is.moved o q r fits here.king takes (turned r fits_r))
              (λ o r i here takes fits_r. leads_into p winner stock mean Left (λ x h. h.is_in) rest_movable rests (suc k) moved a2 rest_stands rest_is t2 o q r fits here.king takes (turned r fits_r))
              made in (
                λ h. let (all, lost) = (part q).0 (stands.0 h) in record { all = all; lost = lost },
                λ h. stands.1 ((part q).1 (h.all, h.lost)),
              );
          fitting = λ m. for_masks-level f (HoldsFitting p loser) (masks_of p)
              (λ m i s ys made tuple h. is.theirs.fitting m tuple (lost_within_if p stock.game.few mean loser k u.loser reply escape s ys (game_mask p mean m i) (is.theirs.over m) made tuple h))
              no_sets level b2 r2 m (inl (λ tuple h. absurd h));
        }
