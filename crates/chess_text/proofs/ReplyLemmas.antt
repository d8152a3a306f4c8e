-- A line is at most one reply.
use Rattle.std.proofs.Common.{◌≡◌, inl, inr, ℕ, ◌+◌, ◌≤◌, List, ◌∷◌, codes, sym, ◌∙◌, subst, refl, arith}
use Rattle.chess_game.specs.declared.moves.Move.{Move}
use Rattle.chess_text.specs.Fields.{HasNoNumber, pair_text}
use Rattle.chess_text.specs.Laws.{ReplyOnce, SpelledMoveIsReply}
use Rattle.chess_text.specs.Replies.{HasDigit, IsReply, IsReplyRefusal, IsTypable, man_digit, move_text}
use Rattle.chess_text.specs.declared.replies.Typed.{Typed}
use Rattle.chess_text.specs.declared.replies.Typed.TheVariants as typed
use Rattle.chess_text.specs.declared.replies.MoveWhy.{MoveWhy}
use Rattle.chess_text.specs.declared.replies.MoveWhy.TheVariants as why
use Rattle.chess_text.proofs.Spellings.{pair_has_fields, pair_no_fault, same_pair}

-- a digit is not the first letter of `quit`
no_digit : (man : ℕ) (rest : List ℕ) → man ≤ 8 → codes "quit" ≡ man_digit man ∷ 32 ∷ rest → ⊥
no_digit man rest h is = let first : 113 ≡ 48 + man = cc in omega arith

same_move : {a b : Move} → IsTypable a → IsTypable b → move_text a ≡ move_text b → a ≡ b
same_move {a} {b} ha hb is =
    let digit : 48 + a.man ≡ 48 + b.man = cc in
    let rest : pair_text a.x a.y ≡ pair_text b.x b.y = cc in
    let man : a.man ≡ b.man = omega arith in
    let parts = same_pair a.x a.y b.x b.y ha.right ha.up hb.right hb.up rest in
    let right = parts.0 in
    let up = parts.1 in
    λ i. record { man = man i; x = right i; y = up i }

one : (line : List ℕ) (a b : Typed) → IsReply line a → IsReply line b → a ≡ b
one line (typed.Move a) (typed.Move b) ha hb = let same = same_move ha.1 hb.1 (sym ha.0 ∙ hb.0) in cc
one line (typed.Move a) typed.Quit ha hb = absurd (no_digit a.man (pair_text a.x a.y) ha.1.last (sym hb ∙ ha.0))
one line typed.Quit (typed.Move b) ha hb = absurd (no_digit b.man (pair_text b.x b.y) hb.1.last (sym ha ∙ hb.0))
one line typed.Quit typed.Quit ha hb = refl

no_fault : {line : List ℕ} {a : Move} → line ≡ move_text a → IsTypable a → HasDigit HasNoNumber line → ⊥
no_fault {a} is ha h =
    let front : move_text a ≡ man_digit h.man ∷ 32 ∷ h.rest = sym is ∙ h.front in
    let rest : pair_text a.x a.y ≡ h.rest = cc in
    pair_no_fault a.x a.y ha.right ha.up (subst HasNoNumber (sym rest) h.shape)

not_refused : (line : List ℕ) (a : Typed) (reason : MoveWhy) → IsReply line a → IsReplyRefusal line reason → ⊥
not_refused line (typed.Move a) why.Shape ha h =
    h (inr (record { man = a.man; first = ha.1.first; last = ha.1.last; rest = pair_text a.x a.y; front = ha.0; shape = pair_has_fields a.x a.y ha.1.right ha.1.up }))
not_refused line (typed.Move a) why.Number ha h = no_fault ha.0 ha.1 h
not_refused line typed.Quit why.Shape ha h = h (inl ha)
not_refused line typed.Quit why.Number ha h = no_digit h.man h.rest h.last (sym ha ∙ h.front)

pub reply_once : ReplyOnce
reply_once = record { one = one; not_refused = not_refused }

pub spelled_move : SpelledMoveIsReply
spelled_move mv h = (refl, h)
