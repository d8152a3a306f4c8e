-- What holds of each report of a game, from what holds of each turn.
use Rattle.std.proofs.Common.{◌≡◌, ℕ, ◌+◌, ◌==◌, List, Bool, true, false, Option, Some, None, refl, sym, subst}
use Rattle.desk_base.specs.Lines.{Lines, full, ended, cut, long}
use Rattle.play_loop.specs.LineReport.{AtLines, BeginsAs, Begins, IsReport, LineReport, OrTooMany, behind, closes, ends, most_lines}
use Rattle.play_loop.specs.Turns.{Comes, OfLine, Rules, Turn}
use Rattle.play_loop.specs.declared.ending.Ending.{Ending}
use Rattle.play_loop.specs.declared.ending.Ending.TheVariants.{Mated, Held, Stuck, Wide, Quit, NoLine, Many, CutAt, LongAt}

-- the lines end so, or too many of them were read
abbrev pub IsOfLines : Ending → Type 0
IsOfLines Mated = ⊥
IsOfLines Held = ⊥
IsOfLines Stuck = ⊥
IsOfLines Wide = ⊥
IsOfLines Quit = ⊥
IsOfLines NoLine = Unit {0}
IsOfLines Many = Unit {0}
IsOfLines (CutAt number) = Unit {0}
IsOfLines (LongAt number) = Unit {0}

-- A statement on games in which a line is due, and on their reports: it holds where the lines end or too many were read, where a turn ends the game, and
-- where it holds after a turn. `Kept` is what goes on from turn to turn.
module _ {G : Type 0} (rules : Rules G) (Kept : G → Type 0) (P : G → LineReport G → Type 0)
    (lasts : (g : G) (line : List ℕ) (t : Turn G) → Kept g → OfLine rules g line t → t.over ≡ None → Kept t.after)
    (none : (g : G) (ending : Ending) (left : Lines) → Kept g → IsOfLines ending → P g (ends ending g left))
    (over : (g : G) (line : List ℕ) (t : Turn G) (ending : Ending) (left : Lines) → Kept g → OfLine rules g line t → t.over ≡ Some ending → P g (closes t ending left))
    (on : (g : G) (line : List ℕ) (t : Turn G) (later : LineReport G) → Kept g → OfLine rules g line t → t.over ≡ None → P t.after later → P g (behind t later)) where
  module _ (On : G → LineReport G → Type 0) (go : (next : G) (later : LineReport G) → Kept next → On next later → P next later) where
    begins_as : (o : Option Ending) (g : G) (line : List ℕ) (rest : Lines) (t : Turn G) (r : LineReport G) → Kept g → OfLine rules g line t → t.over ≡ o
        → BeginsAs o On rest t r → P g r
    begins_as (Some ending) g line rest t r kept of is h = subst (P g) (sym h) (over g line t ending rest kept of is)
    begins_as None g line rest t r kept of is (later, at, h) = subst (P g) (sym h) (on g line t later kept of is (go t.after later (lasts g line t kept of is) at))

    line_begins : (g : G) (line : List ℕ) (rest : Lines) (r : LineReport G) → Kept g → ((t : Turn G) × OfLine rules g line t × Begins On rest t r) → P g r
    line_begins g line rest r kept (t, of, h) = begins_as t.over g line rest t r kept of refl h

  or_many : (stop : Bool) (g : G) (left : Lines) (r : LineReport G) (Else : Type 0) → Kept g → (Else → P g r) → OrTooMany stop g left r Else → P g r
  or_many true g left r Else kept each h = subst (P g) (sym h) (none g Many left kept tt)
  or_many false g left r Else kept each h = each h

  pub walk : (before read : ℕ) (lines : Lines) (g : G) (r : LineReport G) → Kept g → AtLines rules before read lines g r → P g r
  walk before read (full line rest) g r kept h =
      or_many (read == most_lines) g (full line rest) r _ kept
      (line_begins (AtLines rules before (read + 1) rest) (λ next later still at. walk before (read + 1) rest next later still at) g line rest r kept) h
  walk before read ended g r kept h =
      or_many (read == most_lines) g ended r _ kept (λ is. subst (P g) (sym is) (none g NoLine ended kept tt)) h
  walk before read (cut front) g r kept h =
      or_many (read == most_lines) g (cut front) r _ kept (λ is. subst (P g) (sym is) (none g (CutAt (before + read + 1)) (cut front) kept tt)) h
  walk before read long g r kept h =
      or_many (read == most_lines) g long r _ kept (λ is. subst (P g) (sym is) (none g (LongAt (before + read + 1)) long kept tt)) h

-- The same of a whole report: `Q` holds where its first turn ends the game, and, where `P` holds after it, too.
module _ {G : Type 0} (rules : Rules G) (P : G → LineReport G → Type 0) (Q : LineReport G → Type 0) (g : G)
    (over : (t : Turn G) (ending : Ending) (left : Lines) → Comes rules g t → t.over ≡ Some ending → Q (closes t ending left))
    (on : (t : Turn G) (later : LineReport G) → Comes rules g t → t.over ≡ None → P t.after later → Q (behind t later)) where
  module _ (before : ℕ) (lines : Lines) (go : (t : Turn G) (later : LineReport G) → Comes rules g t → t.over ≡ None → AtLines rules before 0 lines t.after later → P t.after later) where
    first_as : (o : Option Ending) (t : Turn G) (r : LineReport G) → Comes rules g t → t.over ≡ o → BeginsAs o (AtLines rules before 0 lines) lines t r → Q r
    first_as (Some ending) t r comes is h = subst Q (sym h) (over t ending lines comes is)
    first_as None t r comes is (later, at, h) = subst Q (sym h) (on t later comes is (go t later comes is at))

    pub first : (r : LineReport G) → IsReport rules before lines g r → Q r
    first r (t, comes, h) = first_as t.over t r comes refl h
