-- A turn is made, from what its calls do.
use Rattle.std.proofs.Common.{◌≡◌, ◌≤◌, inr, ℕ, List, ◌∷◌, length, Option, Some, None, Result, Ok, Err, IfOk, OnErr, OnOk, FitsSigned, refl, sym, subst, arith, length-append}
use Rattle.std.specs.Int.{w64}
use Rattle.std.specs.Fmt.{signed_decimal}
use Rattle.std.specs.Io.KnownBytes.{Appends}
use Rattle.std.proofs.KnownBytes.{Appends-trans}
use Rattle.std.proofs.lemmas.Fmt.{length_signed_le}
use Rattle.text_fields.proofs.Signed.{small}
use Rattle.desk_base.specs.Moves.{AppendsFront}
use Rattle.desk_base.specs.declared.source.Failed.{Failed}
use Rattle.game_rules.specs.Game.{Legal}
use Rattle.chess_game.specs.declared.moves.Move.{Move}
use Rattle.chess_text.specs.Replies.{move_text}
use Rattle.move_choice.specs.Choice.{target}
use Rattle.play_loop.specs.Turns.{ArePlayable, AtMove, AtRest, Comes, IsMadeBy, IsTurnMade, OfMove, Rules, Turn, ending_word, move_line, moves_first, stopped, told}
use Rattle.play_loop.specs.declared.ending.Ending.{Ending}
use Rattle.play_loop.specs.declared.player.GameState.TheVariants.{ToMove}
use Rattle.play_loop.proofs.Fronts.{front_behind, front_more}
use Rattle.play_loop.proofs.TurnLemmas.{picked_some}

-- the text of a move is short
pub move_short : (mv : Move) → FitsSigned w64 mv.x → FitsSigned w64 mv.y → length (move_text mv) ≤ 43
move_short mv x y =
    let first = signed_decimal mv.x in
    let second = signed_decimal mv.y in
    let one : length first ≤ 20 = length_signed_le 19 mv.x (let low = small mv.x x in omega (arith, low)) (small mv.x x) in
    let two : length second ≤ 20 = length_signed_le 19 mv.y (let low = small mv.y y in omega (arith, low)) (small mv.y y) in
    omega (arith, one, two, length-append first (32 ∷ second))

module _ {G : Type 0} where
  -- what may come, said in other words
  pub made_as : (May More : Turn G → Type 0) → ((t : Turn G) → May t → More t) → (result : Result (Option Ending) Failed) (after : G) (old new : Option (List ℕ))
      → IsTurnMade May result after old new → IsTurnMade More result after old new
  made_as May More more (Ok over) after old new (t, may, e, is_after, wrote) = (t, more t may, e, is_after, wrote)
  made_as May More more (Err why) after old new (t, may, wrote) = (t, more t may, wrote)

  -- the game is over, and this is written
  pub stopped_made : (May : Turn G → Type 0) (ending : Ending) (g : G) → May (stopped ending g) → (after : G) → after ≡ g → (result : Result (Option Ending) Failed) (old new : Option (List ℕ))
      → IfOk result (λ over. over ≡ Some ending) → OnOk result (Appends old new (ending_word ending)) → OnErr result (AppendsFront old new (ending_word ending))
      → IsTurnMade May result after old new
  stopped_made May ending g may after same (Ok over) old new is wrote err = (stopped ending g, may, sym is, sym same, wrote)
  stopped_made May ending g may after same (Err why) old new is wrote err = (stopped ending g, may, err)

  -- this is written, and a line is due
  pub told_made : (May : Turn G → Type 0) (text : List ℕ) (g : G) → May (told text g) → (after : G) → after ≡ g → (old new : Option (List ℕ)) → Appends old new text
      → IsTurnMade May (Ok None) after old new
  told_made May text g may after same old new wrote = (told text g, may, refl, sym same, wrote)

  pub told_fails : (May : Turn G → Type 0) (text : List ℕ) (g : G) → May (told text g) → (after : G) (old new : Option (List ℕ)) (result : Result (Option Ending) Failed) (why : Failed)
      → result ≡ Err why → AppendsFront old new text → IsTurnMade May result after old new
  told_fails May text g may after old new result why is wrote =
      subst (λ (r : Result (Option Ending) Failed). IsTurnMade May r after old new) (sym is) (told text g, may, wrote)

module _ {G : Type 0} (rules : Rules G) (g next : G) (mv : Move) (made : IsMadeBy rules g mv next) where
  -- the player has made a move, and the rest follows
  first_of : (t : Turn G) → AtRest rules next t → AtMove rules g (moves_first rules mv next t)
  first_of t rest = by made
    where
      by : IsMadeBy rules g mv next → AtMove rules g (moves_first rules mv next t)
      by (c, is, pick, legal, at) =
          let q = rules.position next in
          let to : Legal (rules.position g) c.mv.man (target c.mv) q = subst (λ (m : Move). Legal (rules.position g) m.man (target m) q) (sym is) legal in
          let still : AtRest rules (rules.moved g q) t = subst (λ (x : G). AtRest rules x t) at rest in
          subst (λ (m : Move). AtMove rules g (moves_first rules m next t)) is
          (subst (λ (x : G). AtMove rules g (moves_first rules c.mv x t)) (sym at) (inr (c, q, t, pick, to, still, refl)))

  abbrev line : List ℕ
  line = move_line (rules.side next) mv

  pub moved_made : (result : Result (Option Ending) Failed) (after : G) (old mid new : Option (List ℕ)) → Appends old mid line → IsTurnMade (AtRest rules next) result after mid new
      → IsTurnMade (AtMove rules g) result after old new
  moved_made (Ok over) after old mid new wrote (t, rest, e, is_after, more) =
      (moves_first rules mv next t, first_of t rest, e, is_after, Appends-trans old mid new line t.text wrote more)
  moved_made (Err why) after old mid new wrote (t, rest, more) = (moves_first rules mv next t, first_of t rest, front_behind old line wrote more)

  module _ (Kept : G → Type 0) (can : ArePlayable rules Kept) (kept : Kept g) (his : rules.Stands g ToMove) where
    after_move : IsMadeBy rules g mv next → (t : Turn G) × AtRest rules next t
    after_move (c, is, pick, legal, at) =
        let q = rules.position next in
        let to : Legal (rules.position g) c.mv.man (target c.mv) q = subst (λ (m : Move). Legal (rules.position g) m.man (target m) q) (sym is) legal in
        let rest = picked_some rules Kept can g c q kept his pick to in
        (rest.0, subst (λ (x : G). AtRest rules x rest.0) (sym at) rest.1)

    -- he does not move again
    pub moves_once : IsMadeBy rules g mv next → rules.Stands next ToMove → ⊥
    moves_once (c, is, pick, legal, at) again =
        let q = rules.position next in
        let to : Legal (rules.position g) c.mv.man (target c.mv) q = subst (λ (m : Move). Legal (rules.position g) m.man (target m) q) (sym is) legal in
        (can.picks_keep g c q kept his pick to).1 (subst (λ (x : G). rules.Stands x ToMove) at again)

    -- his line is not written whole
    pub moved_fails : (after : G) (old new : Option (List ℕ)) (result : Result (Option Ending) Failed) (why : Failed) → result ≡ Err why → AppendsFront old new line
        → IsTurnMade (AtMove rules g) result after old new
    moved_fails after old new result why is wrote =
        let later = after_move made in
        subst (λ (r : Result (Option Ending) Failed). IsTurnMade (AtMove rules g) r after old new) (sym is)
        (moves_first rules mv next later.0, first_of later.0 later.1, front_more later.0.text wrote)

-- a legal move was made, and its turn follows
pub reply_made : {G : Type 0} (rules : Rules G) (g next : G) (mv : Move) → Legal (rules.position g) mv.man (target mv) (rules.position next)
    → next ≡ rules.moved g (rules.position next) → (result : Result (Option Ending) Failed) (after : G) (old new : Option (List ℕ)) → IsTurnMade (Comes rules next) result after old new
    → IsTurnMade (OfMove rules g mv) result after old new
reply_made {G} rules g next mv legal at result after old new made =
    made_as (Comes rules next) (OfMove rules g mv) (λ t h. inr (rules.position next, legal, subst (λ (x : G). Comes rules x t) at h)) result after old new made
