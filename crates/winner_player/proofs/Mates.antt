-- A report that ends by mate ends at a mate.
use Rattle.std.proofs.Common.{◌≡◌, inl, inr, ℕ, [], Option, Some, None, sym, ap, subst, ◌∙◌, codes}
use Rattle.desk_base.specs.Lines.{Lines}
use Rattle.game_rules.specs.Game.{Mate}
use Rattle.chess_text.specs.declared.replies.Typed.{Typed}
use Rattle.chess_text.specs.declared.replies.Typed.TheVariants as typed
use Rattle.play_loop.specs.LineReport.{IsReport, LineReport}
use Rattle.play_loop.specs.Turns.{AtRest, Comes, OfTyped, Turn, moves_first, stopped, told}
use Rattle.play_loop.specs.declared.ending.Ending.{Ending}
use Rattle.play_loop.specs.declared.ending.Ending.TheVariants.{Mated, Quit, Wide}
use Rattle.play_loop.proofs.TurnLemmas.{over_as}
use Rattle.play_loop.proofs.Walks.{IsOfLines, first, walk}
use Rattle.winner_player.specs.WinnerRules.{Match, moved, winner_rules}

-- where a turn ends the game by mate, it is mate
abbrev EndsByMate : Turn Match → Type 0
EndsByMate t = t.over ≡ Some Mated → Mate t.after.position

rest_mates : (g : Match) (t : Turn Match) → AtRest winner_rules g t → EndsByMate t
rest_mates g t (inl (ending, (e, turn, mate), is)) over = subst (λ (x : Match). Mate x.position) (sym (ap (λ x. x.after) is)) mate
rest_mates g t (inr (due, is)) over = absurd (let no : None ≡ Some Mated = over_as t (told [] g) (Some Mated) is over in cc)

comes_mates : (g : Match) (t : Turn Match) → Comes winner_rules g t → EndsByMate t
comes_mates g t (inl h) over = rest_mates g t h over
comes_mates g t (inr (his, inl (none, is))) over = absurd (let no : Some Wide ≡ Some Mated = over_as t (stopped Wide g) (Some Mated) is over in cc)
comes_mates g t (inr (his, inr (c, q, later, pick, legal, rest, is))) over =
    subst (λ (x : Match). Mate x.position) (sym (ap (λ x. x.after) is))
    (rest_mates (moved g q) later rest (over_as t (moves_first winner_rules c.mv (moved g q) later) (Some Mated) is over))

typed_mates : (g : Match) (reply : Option Typed) (t : Turn Match) → OfTyped winner_rules g reply t → EndsByMate t
typed_mates g None t is over = absurd (let no : None ≡ Some Mated = over_as t (told (codes "unreadable\n") g) (Some Mated) is over in cc)
typed_mates g (Some typed.Quit) t is over = absurd (let no : Some Quit ≡ Some Mated = over_as t (stopped Quit g) (Some Mated) is over in cc)
typed_mates g (Some (typed.Move mv)) t (inl (none, is)) over = absurd (let no : None ≡ Some Mated = over_as t (told (codes "illegal\n") g) (Some Mated) is over in cc)
typed_mates g (Some (typed.Move mv)) t (inr (q, legal, h)) over = comes_mates (moved g q) t h over

abbrev Mates : LineReport Match → Type 0
Mates r = r.ending ≡ Mated → Mate r.last.position

not_by_lines : (ending : Ending) → IsOfLines ending → ending ≡ Mated → ⊥
not_by_lines ending of e = subst IsOfLines e of

pub mated_mate : (before : ℕ) (lines : Lines) (g : Match) (r : LineReport Match) → IsReport winner_rules before lines g r → r.ending ≡ Mated → Mate r.last.position
mated_mate before lines g r h =
    first winner_rules (λ m x. Mates x) Mates g
    (λ t ending left comes over e. comes_mates g t comes (over ∙ ap (λ x. Some x) e))
    (λ t later comes still mates. mates) before lines
    (λ t later comes still at. walk winner_rules (λ m. Unit {0}) (λ m x. Mates x)
    (λ m line u kept of on. tt)
    (λ m ending left kept of e. absurd (not_by_lines ending of e))
    (λ m line u ending left kept of over e. typed_mates m of.0 u of.2 (over ∙ ap (λ x. Some x) e))
    (λ m line u x kept of on mates. mates) before 0 lines t.after later tt at) r h
