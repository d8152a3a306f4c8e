-- There is one report of a game.
use Rattle.std.proofs.Common.{◌≡◌, ℕ, ◌+◌, ◌==◌, Bool, true, false, Option, Some, None, refl, sym, ap, subst, ◌∙◌}
use Rattle.desk_base.specs.Lines.{Lines, full, ended, cut, long}
use Rattle.play_loop.specs.LineReport.{AtLines, Begins, BeginsAs, IsReport, LineReport, OrTooMany, behind, closes, ends, most_lines}
use Rattle.play_loop.specs.Turns.{ArePlayable, Comes, OfLine, Rules, Turn}
use Rattle.play_loop.specs.declared.ending.Ending.{Ending}
use Rattle.play_loop.specs.declared.ending.Ending.TheVariants.{CutAt, LongAt, Many, NoLine}
use Rattle.play_loop.specs.declared.player.GameState.TheVariants.{LineDue}
use Rattle.play_loop.proofs.TurnLemmas.{comes_once, comes_some, due_after, first_due_after, line_once, line_some}

module _ {G : Type 0} (On : G → LineReport G → Type 0) where
  -- a turn that ends the game begins a report, and so does one after which there is one
  pub begins_over : (left : Lines) (t : Turn G) (ending : Ending) → t.over ≡ Some ending → Begins On left t (closes t ending left)
  begins_over left t ending is = subst (λ (o : Option Ending). BeginsAs o On left t (closes t ending left)) (sym is) refl

  pub begins_on : (left : Lines) (t : Turn G) (later : LineReport G) → t.over ≡ None → On t.after later → Begins On left t (behind t later)
  begins_on left t later is on = subst (λ (o : Option Ending). BeginsAs o On left t (behind t later)) (sym is) (later, on, refl)

  begun_some : (left : Lines) (t : Turn G) (o : Option Ending) → t.over ≡ o → (t.over ≡ None → (later : LineReport G) × On t.after later) → (r : LineReport G) × Begins On left t r
  begun_some left t (Some ending) is go = (closes t ending left, begins_over left t ending is)
  begun_some left t None is go = let on = go is in (behind t on.0, begins_on left t on.0 is on.1)

  begun_once : (left : Lines) (t : Turn G) (o : Option Ending) (a b : LineReport G) → ((x y : LineReport G) → On t.after x → On t.after y → x ≡ y) → BeginsAs o On left t a → BeginsAs o On left t b → a ≡ b
  begun_once left t (Some ending) a b once h k = h ∙ sym k
  begun_once left t None a b once (x, h, is) (y, k, are) = is ∙ (ap (behind t) (once x y h k) ∙ sym are)

-- one of all turns that may come
module _ {G : Type 0} (May : Turn G → Type 0) (On : G → LineReport G → Type 0) where
  abbrev Begun : Lines → LineReport G → Type 0
  Begun left r = (t : Turn G) × May t × Begins On left t r

  turn_some : (left : Lines) → ((t : Turn G) × May t) → ((t : Turn G) → May t → t.over ≡ None → (later : LineReport G) × On t.after later) → (r : LineReport G) × Begun left r
  turn_some left (t, may) go = let h = begun_some On left t t.over refl (go t may) in (h.0, (t, may, h.1))

  turn_once : (left : Lines) (a b : LineReport G) → ((t u : Turn G) → May t → May u → t ≡ u) → ((g : G) (x y : LineReport G) → On g x → On g y → x ≡ y) → Begun left a → Begun left b → a ≡ b
  turn_once left a b one once (t, may, h) (u, can, k) =
      begun_once On left u u.over a b (once u.after) (subst (λ (x : Turn G). Begins On left x a) (one t u may can) h) k

module _ {G : Type 0} where
  many_some : (stop : Bool) (g : G) (left : Lines) (P : LineReport G → Type 0) → ((r : LineReport G) × P r) → (r : LineReport G) × OrTooMany stop g left r (P r)
  many_some true g left P h = (ends Many g left, refl)
  many_some false g left P h = h

  many_once : (stop : Bool) (g : G) (left : Lines) (a b : LineReport G) (A B : Type 0) → (A → B → a ≡ b) → OrTooMany stop g left a A → OrTooMany stop g left b B → a ≡ b
  many_once true g left a b A B same h k = h ∙ sym k
  many_once false g left a b A B same h k = same h k

module _ {G : Type 0} (rules : Rules G) (Kept : G → Type 0) (can : ArePlayable rules Kept) where
  lines_once : (before read : ℕ) (lines : Lines) (g : G) (a b : LineReport G) → AtLines rules before read lines g a → AtLines rules before read lines g b → a ≡ b
  lines_once before read (full line rest) g a b h k =
      many_once (read == most_lines) g (full line rest) a b _ _
      (turn_once (OfLine rules g line) (AtLines rules before (read + 1) rest) rest a b (line_once rules Kept can g line)
      (λ next x y. lines_once before (read + 1) rest next x y)) h k
  lines_once before read ended g a b h k = many_once (read == most_lines) g ended a b _ _ (λ x y. x ∙ sym y) h k
  lines_once before read (cut front) g a b h k = many_once (read == most_lines) g (cut front) a b _ _ (λ x y. x ∙ sym y) h k
  lines_once before read long g a b h k = many_once (read == most_lines) g long a b _ _ (λ x y. x ∙ sym y) h k

  pub one_report : (before : ℕ) (lines : Lines) (g : G) (a b : LineReport G) → IsReport rules before lines g a → IsReport rules before lines g b → a ≡ b
  one_report before lines g a b h k =
      turn_once (Comes rules g) (AtLines rules before 0 lines) lines a b (comes_once rules Kept can g) (λ next x y. lines_once before 0 lines next x y) h k

  pub some_later : (before read : ℕ) (lines : Lines) (g : G) → Kept g → rules.Stands g LineDue → (later : LineReport G) × AtLines rules before read lines g later
  some_later before read (full line rest) g kept due =
      many_some (read == most_lines) g (full line rest) (λ r. (t : Turn G) × OfLine rules g line t × Begins (AtLines rules before (read + 1) rest) rest t r)
      (turn_some (OfLine rules g line) (AtLines rules before (read + 1) rest) rest (line_some rules Kept can g line kept due)
      (λ t of is. let next = due_after rules Kept can g line t (kept, due) of is in some_later before (read + 1) rest t.after next.0 next.1))
  some_later before read ended g kept due =
      many_some (read == most_lines) g ended (λ r. r ≡ ends NoLine g ended) (ends NoLine g ended, refl)
  some_later before read (cut front) g kept due =
      many_some (read == most_lines) g (cut front) (λ r. r ≡ ends (CutAt (before + read + 1)) g (cut front)) (ends (CutAt (before + read + 1)) g (cut front), refl)
  some_later before read long g kept due =
      many_some (read == most_lines) g long (λ r. r ≡ ends (LongAt (before + read + 1)) g long) (ends (LongAt (before + read + 1)) g long, refl)

  pub some_report : (before : ℕ) (lines : Lines) (g : G) → Kept g → (report : LineReport G) × IsReport rules before lines g report
  some_report before lines g kept =
      turn_some (Comes rules g) (AtLines rules before 0 lines) lines (comes_some rules Kept can g kept)
      (λ t comes is. let next = first_due_after rules Kept can g t kept comes is in some_later before 0 lines t.after next.0 next.1)
