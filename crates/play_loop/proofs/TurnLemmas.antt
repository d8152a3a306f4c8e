-- Of each game one turn comes, and of each line; what is kept is kept after it.
use Rattle.std.proofs.Common.{◌≡◌, inl, inr, ℕ, List, [], Option, Some, None, refl, sym, ap, subst, ◌∙◌, codes}
use Rattle.std.proofs.lemmas.Option.{same_Some}
use Rattle.game_rules.specs.Game.{Position, Legal}
use Rattle.game_laws.specs.Answer.{CanGo}
use Rattle.game_laws.proofs.DecideLemmas.{Decided, can_go}
use Rattle.game_laws.proofs.MoveLemmas.{same_after}
use Rattle.chess_game.specs.declared.moves.Move.{Move}
use Rattle.chess_text.proofs.ReplyLemmas.{reply_once}
use Rattle.chess_text.specs.declared.replies.Typed.{Typed}
use Rattle.chess_text.specs.declared.replies.Typed.TheVariants as typed
use Rattle.move_choice.specs.Choice.{target}
use Rattle.move_choice.specs.declared.choice.Choice.{Choice}
use Rattle.play_loop.specs.Turns.{ArePlayable, AtMove, AtRest, Comes, IsTyped, OfLine, OfMove, OfTyped, Rules, Turn, moves_first, stopped, told}
use Rattle.play_loop.specs.declared.ending.Ending.{Ending}
use Rattle.play_loop.specs.declared.ending.Ending.TheVariants.{Quit, Wide}
use Rattle.play_loop.specs.declared.player.GameState.{GameState}
use Rattle.play_loop.specs.declared.player.GameState.TheVariants.{Over, LineDue, ToMove}
use Rattle.play_loop.proofs.Typing.{some_typed}

typed_once : (line : List ℕ) (a b : Option Typed) → IsTyped line a → IsTyped line b → a ≡ b
typed_once line None None h k = refl
typed_once line None (Some b) h k = absurd (reply_once.not_refused line b h.0 k h.1)
typed_once line (Some a) None h k = absurd (reply_once.not_refused line a k.0 h k.1)
typed_once line (Some a) (Some b) h k = ap (λ x. Some x) (reply_once.one line a b h k)

over_same : (a b : Ending) → Over a ≡ Over b → a ≡ b
over_same a b e = cc

-- a turn that is this one is over as it is
pub over_as : {G : Type 0} (t u : Turn G) (o : Option Ending) → t ≡ u → t.over ≡ o → u.over ≡ o
over_as t u o is e = sym (ap (λ x. x.over) is) ∙ e

module _ {G : Type 0} (rules : Rules G) (Kept : G → Type 0) (can : ArePlayable rules Kept) where
  -- one at most

  rest_once : (g : G) (a b : Turn G) → AtRest rules g a → AtRest rules g b → a ≡ b
  rest_once g a b (inl (e, stands, is)) (inl (f, too, are)) =
      is ∙ (ap (λ (x : Ending). stopped x g) (over_same e f (can.one_standing g (Over e) (Over f) stands too)) ∙ sym are)
  rest_once g a b (inl (e, stands, is)) (inr (due, are)) = absurd (let no : Over e ≡ LineDue = can.one_standing g (Over e) LineDue stands due in cc)
  rest_once g a b (inr (due, is)) (inl (f, too, are)) = absurd (let no : Over f ≡ LineDue = can.one_standing g (Over f) LineDue too due in cc)
  rest_once g a b (inr (due, is)) (inr (too, are)) = is ∙ sym are

  move_once : (g : G) (a b : Turn G) → AtMove rules g a → AtMove rules g b → a ≡ b
  move_once g a b (inl (none, is)) (inl (too, are)) = is ∙ sym are
  move_once g a b (inl (none, is)) (inr (d, r, after, pick, safe, rest, are)) =
      absurd (let no : None ≡ Some d = can.one_pick g None (Some d) none pick in cc)
  move_once g a b (inr (c, q, later, pick, legal, rest, is)) (inl (none, are)) =
      absurd (let no : None ≡ Some c = can.one_pick g None (Some c) none pick in cc)
  move_once g a b (inr (c, q, later, pick, legal, rest, is)) (inr (d, r, after, picked, safe, at, are)) =
      let choice : c ≡ d = same_Some c d (can.one_pick g (Some c) (Some d) pick picked) in
      let to : Legal (rules.position g) d.mv.man (target d.mv) q = subst (λ (e : Choice). Legal (rules.position g) e.mv.man (target e.mv) q) choice legal in
      let position : q ≡ r = same_after to.step.after safe.step.after in
      let same : later ≡ after = rest_once (rules.moved g r) later after (subst (λ p. AtRest rules (rules.moved g p) later) position rest) at in
      is ∙ (ap (λ (e : Choice). moves_first rules e.mv (rules.moved g q) later) choice
      ∙ (ap (λ p. moves_first rules d.mv (rules.moved g p) later) position ∙ (ap (moves_first rules d.mv (rules.moved g r)) same ∙ sym are)))

  moving_rests : (g : G) (a : Turn G) → rules.Stands g ToMove → AtRest rules g a → ⊥
  moving_rests g a his (inl (e, stands, is)) = let no : ToMove ≡ Over e = can.one_standing g ToMove (Over e) his stands in cc
  moving_rests g a his (inr (due, is)) = let no : ToMove ≡ LineDue = can.one_standing g ToMove LineDue his due in cc

  pub comes_once : (g : G) (a b : Turn G) → Comes rules g a → Comes rules g b → a ≡ b
  comes_once g a b (inl h) (inl k) = rest_once g a b h k
  comes_once g a b (inl h) (inr (his, k)) = absurd (moving_rests g a his h)
  comes_once g a b (inr (his, h)) (inl k) = absurd (moving_rests g b his k)
  comes_once g a b (inr (his, h)) (inr (too, k)) = move_once g a b h k

  made_once : (g : G) (mv : Move) (a b : Turn G) → OfMove rules g mv a → OfMove rules g mv b → a ≡ b
  made_once g mv a b (inl (none, is)) (inl (no_move, are)) = is ∙ sym are
  made_once g mv a b (inl (none, is)) (inr (q, legal, k)) = absurd (none q legal)
  made_once g mv a b (inr (q, legal, h)) (inl (none, are)) = absurd (none q legal)
  made_once g mv a b (inr (q, legal, h)) (inr (r, safe, k)) =
      let position : q ≡ r = same_after legal.step.after safe.step.after in
      comes_once (rules.moved g r) a b (subst (λ p. Comes rules (rules.moved g p) a) position h) k

  of_typed_once : (g : G) (reply : Option Typed) (a b : Turn G) → OfTyped rules g reply a → OfTyped rules g reply b → a ≡ b
  of_typed_once g None a b h k = h ∙ sym k
  of_typed_once g (Some typed.Quit) a b h k = h ∙ sym k
  of_typed_once g (Some (typed.Move mv)) a b h k = made_once g mv a b h k

  pub line_once : (g : G) (line : List ℕ) (a b : Turn G) → OfLine rules g line a → OfLine rules g line b → a ≡ b
  line_once g line a b (one, is, h) (two, are, k) = of_typed_once g two a b (subst (λ reply. OfTyped rules g reply a) (typed_once line one two is are) h) k

  -- one at least

  abbrev Some_turn : (Turn G → Type 0) → Type 0
  Some_turn May = (t : Turn G) × May t

  pub rest_some : (g : G) → Kept g → (rules.Stands g ToMove → ⊥) → Some_turn (AtRest rules g)
  rest_some g kept still = by (can.some_standing g kept)
    where
      by : ((standing : GameState) × rules.Stands g standing) → Some_turn (AtRest rules g)
      by (Over ending, stands) = (stopped ending g, inl (ending, stands, refl))
      by (LineDue, due) = (told [] g, inr (due, refl))
      by (ToMove, his) = absurd (still his)

  -- where the player makes his move
  pub picked_some : (g : G) (c : Choice) (q : Position) → Kept g → rules.Stands g ToMove → rules.Picks g (Some c) → Legal (rules.position g) c.mv.man (target c.mv) q
      → (later : Turn G) × AtRest rules (rules.moved g q) later
  picked_some g c q kept his pick legal =
      let next = can.picks_keep g c q kept his pick legal in rest_some (rules.moved g q) next.0 next.1

  move_some : (g : G) → Kept g → rules.Stands g ToMove → Some_turn (AtMove rules g)
  move_some g kept his = by (can.some_pick g kept his)
    where
      by : ((choice : Option Choice) × rules.Picks g choice) → Some_turn (AtMove rules g)
      by (None, none) = (stopped Wide g, inl (none, refl))
      by (Some c, pick) =
          let to = can.picks_lead g c pick in
          let later = picked_some g c to.0 kept his pick to.1 in
          (moves_first rules c.mv (rules.moved g to.0) later.0, inr (c, to.0, later.0, pick, to.1, later.1, refl))

  pub comes_some : (g : G) → Kept g → Some_turn (Comes rules g)
  comes_some g kept = by (can.some_standing g kept)
    where
      by : ((standing : GameState) × rules.Stands g standing) → Some_turn (Comes rules g)
      by (Over ending, stands) = (stopped ending g, inl (inl (ending, stands, refl)))
      by (LineDue, due) = (told [] g, inl (inr (due, refl)))
      by (ToMove, his) = let h = move_some g kept his in (h.0, inr (his, h.1))

  made_some : (g : G) → Kept g → rules.Stands g LineDue → (mv : Move) → Some_turn (OfMove rules g mv)
  made_some g kept due mv = by (can_go (rules.position g) mv.man (target mv))
    where
      by : Decided (CanGo (rules.position g) mv.man (target mv)) → Some_turn (OfMove rules g mv)
      by (inr stuck) = (told (codes "illegal\n") g, inl (λ q legal. stuck (q, legal), refl))
      by (inl (q, legal)) = let h = comes_some (rules.moved g q) (can.typed_keep g mv q kept due legal) in (h.0, inr (q, legal, h.1))

  of_typed_some : (g : G) → Kept g → rules.Stands g LineDue → (reply : Option Typed) → Some_turn (OfTyped rules g reply)
  of_typed_some g kept due None = (told (codes "unreadable\n") g, refl)
  of_typed_some g kept due (Some typed.Quit) = (stopped Quit g, refl)
  of_typed_some g kept due (Some (typed.Move mv)) = made_some g kept due mv

  pub line_some : (g : G) (line : List ℕ) → Kept g → rules.Stands g LineDue → Some_turn (OfLine rules g line)
  line_some g line kept due =
      let reply = some_typed line in
      let h = of_typed_some g kept due reply.0 in
      (h.0, (reply.0, reply.1, h.1))

-- where a line is due, of a game with the property
abbrev pub IsDueIn : {G : Type 0} → Rules G → (G → Type 0) → G → Type 0
IsDueIn rules Kept g = Kept g × rules.Stands g LineDue

-- What each move keeps lasts from turn to turn, and after a turn that does not end the game a line is due.
module _ {G : Type 0} (rules : Rules G) (Kept : G → Type 0)
    (picks_keep : (g : G) (c : Choice) (q : Position) → Kept g → rules.Stands g ToMove → rules.Picks g (Some c) → Legal (rules.position g) c.mv.man (target c.mv) q → Kept (rules.moved g q))
    (typed_keep : (g : G) (mv : Move) (q : Position) → Kept g → rules.Stands g LineDue → Legal (rules.position g) mv.man (target mv) q → Kept (rules.moved g q)) where
  rest_lasts : (g : G) (t : Turn G) → Kept g → AtRest rules g t → t.over ≡ None → IsDueIn rules Kept t.after
  rest_lasts g t kept (inl (ending, stands, is)) on = absurd (let no : Some ending ≡ None = over_as t (stopped ending g) None is on in cc)
  rest_lasts g t kept (inr (due, is)) on = subst (IsDueIn rules Kept) (sym (ap (λ x. x.after) is)) (kept, due)

  pub comes_lasts : (g : G) (t : Turn G) → Kept g → Comes rules g t → t.over ≡ None → IsDueIn rules Kept t.after
  comes_lasts g t kept (inl h) on = rest_lasts g t kept h on
  comes_lasts g t kept (inr (his, inl (none, is))) on = absurd (let no : Some Wide ≡ None = over_as t (stopped Wide g) None is on in cc)
  comes_lasts g t kept (inr (his, inr (c, q, later, pick, legal, rest, is))) on =
      let still : later.over ≡ None = over_as t (moves_first rules c.mv (rules.moved g q) later) None is on in
      subst (IsDueIn rules Kept) (sym (ap (λ x. x.after) is)) (rest_lasts (rules.moved g q) later (picks_keep g c q kept his pick legal) rest still)

  told_lasts : (g : G) (text : List ℕ) (t : Turn G) → IsDueIn rules Kept g → t ≡ told text g → IsDueIn rules Kept t.after
  told_lasts g text t kept is = subst (IsDueIn rules Kept) (sym (ap (λ x. x.after) is)) kept

  made_lasts : (g : G) (mv : Move) (t : Turn G) → IsDueIn rules Kept g → OfMove rules g mv t → t.over ≡ None → IsDueIn rules Kept t.after
  made_lasts g mv t kept (inl (none, is)) on = told_lasts g (codes "illegal\n") t kept is
  made_lasts g mv t kept (inr (q, legal, h)) on = comes_lasts (rules.moved g q) t (typed_keep g mv q kept.0 kept.1 legal) h on

  of_typed_lasts : (g : G) (reply : Option Typed) (t : Turn G) → IsDueIn rules Kept g → OfTyped rules g reply t → t.over ≡ None → IsDueIn rules Kept t.after
  of_typed_lasts g None t kept is on = told_lasts g (codes "unreadable\n") t kept is
  of_typed_lasts g (Some typed.Quit) t kept is on = absurd (let no : Some Quit ≡ None = over_as t (stopped Quit g) None is on in cc)
  of_typed_lasts g (Some (typed.Move mv)) t kept h on = made_lasts g mv t kept h on

  pub line_lasts : (g : G) (line : List ℕ) (t : Turn G) → IsDueIn rules Kept g → OfLine rules g line t → t.over ≡ None → IsDueIn rules Kept t.after
  line_lasts g line t kept (reply, is, h) on = of_typed_lasts g reply t kept h on

-- so it is with the games that can be played
module _ {G : Type 0} (rules : Rules G) (Kept : G → Type 0) (can : ArePlayable rules Kept) where
  pub first_due_after : (g : G) (t : Turn G) → Kept g → Comes rules g t → t.over ≡ None → IsDueIn rules Kept t.after
  first_due_after g t kept h on =
      comes_lasts rules Kept (λ m c q k his pick legal. (can.picks_keep m c q k his pick legal).0) (λ m mv q k due legal. can.typed_keep m mv q k due legal) g t kept h on

  pub due_after : (g : G) (line : List ℕ) (t : Turn G) → IsDueIn rules Kept g → OfLine rules g line t → t.over ≡ None → IsDueIn rules Kept t.after
  due_after g line t kept h on =
      line_lasts rules Kept (λ m c q k his pick legal. (can.picks_keep m c q k his pick legal).0) (λ m mv q k due legal. can.typed_keep m mv q k due legal) g line t kept h on
