-- Lines are one text.
use Rattle.std.proofs.Common.{◌≡◌, ℕ, ◌+◌, sym, subst, ◌∙◌}
use Rattle.desk_base.specs.Lines.{Lines, full, ended, cut, long}
use Rattle.chess_text.specs.PositionText.{Turnout}
use Rattle.chess_text.specs.PositionText as turnouts
use Rattle.chess_text.specs.declared.reader.ReaderState.{ReaderState}
use Rattle.chess_text.proofs.PositionLemmas.{feeds_once}
use Rattle.desk_text.specs.Text.{Text, AfterLine, Reading, ReadsLines}

once_after : {A : Type 0} (r : Reading A) (turnout : Turnout) (number : ℕ) (rest : Lines) (one other : Text A) (F G : ReaderState → Type 0)
    → ((next : ReaderState) → F next → G next → one ≡ other) → AfterLine r turnout number rest one F → AfterLine r turnout number rest other G → one ≡ other
once_after r (turnouts.more next) number rest one other F G once a b = once next a b
once_after r (turnouts.complete p) number rest one other F G once a b = a ∙ sym b
once_after r (turnouts.wrong why) number rest one other F G once a b = a ∙ sym b

pub once_text : {A : Type 0} (r : Reading A) (stage : ReaderState) (number : ℕ) (lines : Lines) (one other : Text A) → ReadsLines r stage number lines one → ReadsLines r stage number lines other
    → one ≡ other
once_text r stage number (full line rest) one other a b =
    let F : ReaderState → Type 0 = λ next. ReadsLines r next (number + 1) rest one in
    let G : ReaderState → Type 0 = λ next. ReadsLines r next (number + 1) rest other in
    let P : Turnout → Type 0 = λ t. AfterLine r t number rest other G in
    once_after r a.0 number rest one other F G (λ next x y. once_text r next (number + 1) rest one other x y) a.2
    (subst P (sym (feeds_once r.grammar stage line a.0 b.0 a.1 b.1)) b.2)
once_text r stage number ended one other a b = a ∙ sym b
once_text r stage number (cut front) one other a b = a ∙ sym b
once_text r stage number long one other a b = a ∙ sym b
