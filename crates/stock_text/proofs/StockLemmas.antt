-- What lines make of a stock text. Crates above cite these lemmas.
use Rattle.std.proofs.Common.{◌≡◌, inl, inr, ℕ, ◌+◌, ◌<◌, ◌≤◌, List, [], ◌∷◌, ◌++◌, length, map, refl, sym, ap, ◌∙◌, subst, arith, append_assoc, length-append, codes}
use Rattle.std.proofs.lemmas.List.{append-nil}
use Rattle.game_rules.specs.declared.men.Kind.{Kind}
use Rattle.game_rules.specs.declared.men.Man.{Man}
use Rattle.game_rules.specs.declared.men.Place.TheVariants.{Gone}
use Rattle.game_rules.specs.declared.men.Side.{Side}
use Rattle.game_rules.specs.declared.men.Side.TheVariants.{White}
use Rattle.chess_text.specs.Grammar.{positions}
use Rattle.chess_text.specs.ManLine.{IsManLine, kind_letter, side_letter}
use Rattle.chess_text.specs.ManLine as man_lines
use Rattle.chess_text.specs.PositionText.{end_line}
use Rattle.chess_text.proofs.Spellings.{same_man, same_side}
use Rattle.stock_text.specs.Laws.{AcceptedIsSpelled, FeedsOnce, SpelledIsAccepted}
use Rattle.stock_text.specs.Stock.{Stock, no_men, with_man}
use Rattle.stock_text.specs.StockText.{Completes, Feeds, FeedsMan, FeedsMen, IsWritable, Turnout, header, man_text, more, wrong, complete, winner_text}
use Rattle.stock_text.specs.declared.reader.StockState.{StockState}
use Rattle.stock_text.specs.declared.reader.StockState.TheVariants as state
use Rattle.stock_text.specs.declared.stock.StockMan.{StockMan}
use Rattle.stock_position.specs.declared.live.TheConstants.{MOST_STOCK}

-- a man of the kind, off the board
abbrev gone_man : Kind → Man
gone_man k = record { side = White; kind = k; place = Gone }

-- a kind has a symbol of its own
pub same_kind : (k l : Kind) → kind_letter k ≡ kind_letter l → k ≡ l
same_kind k l h =
    let line = man_lines.man_text (gone_man k) in
    let first : IsManLine positions line (gone_man k) = record { spelled = refl; fits = tt } in
    let second : IsManLine positions line (gone_man l) =
    record { spelled = ap (λ b. side_letter White ∷ 32 ∷ b ∷ 32 ∷ codes "gone") h; fits = tt } in
    ap (λ m. m.kind) (same_man {g = positions} {line = line} {m = gone_man k} {n = gone_man l} first second)

-- a man has one line
pub same_man_line : (m n : StockMan) → man_text m ≡ man_text n → m ≡ n
same_man_line m n h =
    let side_is : side_letter m.side ≡ side_letter n.side = cc in
    let kind_is : kind_letter m.kind ≡ kind_letter n.kind = cc in
    let side = same_side m.side n.side side_is in
    let kind = same_kind m.kind n.kind kind_is in
    λ i. record { side = side i; kind = kind i }

-- the second line names one winner
pub same_winner : (s t : Side) → winner_text s ≡ winner_text t → s ≡ t
same_winner s t h = let letter : side_letter s ≡ side_letter t = cc in same_side s t letter

-- a man's line is not the end
man_not_end : (m : StockMan) → man_text m ≡ end_line → ⊥
man_not_end m h = cc

man_once : (s : Stock) (line : List ℕ) (one other : Turnout) → FeedsMan s line one → FeedsMan s line other → one ≡ other
man_once s line one other (inl (m, hm, im)) (inl (n, hn, in')) =
    im ∙ ap (λ k. more (state.Men (with_man s k))) (same_man_line m n (sym hm ∙ hn)) ∙ sym in'
man_once s line one other (inl (m, hm, im)) (inr (none, i)) = absurd (none m hm)
man_once s line one other (inr (none, i)) (inl (n, hn, in')) = absurd (none n hn)
man_once s line one other (inr (none, i)) (inr (none', j)) = i ∙ sym j

men_once : (s : Stock) (line : List ℕ) (one other : Turnout) → FeedsMen s line one → FeedsMen s line other → one ≡ other
men_once s line one other (inl (a, e, i)) (inl (b, f, j)) = i ∙ sym j
men_once s line one other (inl (a, e, i)) (inr (inl (b, f, j))) = absurd (omega arith)
men_once s line one other (inl (a, e, i)) (inr (inr (inl (b, f, j)))) = absurd (f e)
men_once s line one other (inl (a, e, i)) (inr (inr (inr (b, f, j)))) = absurd (f e)
men_once s line one other (inr (inl (a, e, i))) (inl (b, f, j)) = absurd (omega arith)
men_once s line one other (inr (inl (a, e, i))) (inr (inl (b, f, j))) = i ∙ sym j
men_once s line one other (inr (inl (a, e, i))) (inr (inr (inl (b, f, j)))) = absurd (f e)
men_once s line one other (inr (inl (a, e, i))) (inr (inr (inr (b, f, j)))) = absurd (f e)
men_once s line one other (inr (inr (inl (a, e, i)))) (inl (b, f, j)) = absurd (e f)
men_once s line one other (inr (inr (inl (a, e, i)))) (inr (inl (b, f, j))) = absurd (e f)
men_once s line one other (inr (inr (inl (a, e, i)))) (inr (inr (inl (b, f, j)))) = i ∙ sym j
men_once s line one other (inr (inr (inl (a, e, i)))) (inr (inr (inr (b, f, j)))) = absurd (omega arith)
men_once s line one other (inr (inr (inr (a, e, i)))) (inl (b, f, j)) = absurd (e f)
men_once s line one other (inr (inr (inr (a, e, i)))) (inr (inl (b, f, j))) = absurd (e f)
men_once s line one other (inr (inr (inr (a, e, i)))) (inr (inr (inl (b, f, j)))) = absurd (omega arith)
men_once s line one other (inr (inr (inr (a, e, i)))) (inr (inr (inr (b, f, j)))) = man_once s line one other i j

pub feeds_once : FeedsOnce
feeds_once state.Header line one other (inl (e, i)) (inl (f, j)) = i ∙ sym j
feeds_once state.Header line one other (inl (e, i)) (inr (f, j)) = absurd (f e)
feeds_once state.Header line one other (inr (e, i)) (inl (f, j)) = absurd (e f)
feeds_once state.Header line one other (inr (e, i)) (inr (f, j)) = i ∙ sym j
feeds_once state.Winner line one other (inl (s, e, i)) (inl (t, f, j)) =
    i ∙ ap (λ w. more (state.Men (no_men w))) (same_winner s t (sym e ∙ f)) ∙ sym j
feeds_once state.Winner line one other (inl (s, e, i)) (inr (f, j)) = absurd (f s e)
feeds_once state.Winner line one other (inr (e, i)) (inl (t, f, j)) = absurd (e t f)
feeds_once state.Winner line one other (inr (e, i)) (inr (f, j)) = i ∙ sym j
feeds_once (state.Men s) line one other a b = men_once s line one other a b

-- the lines are those of further men and the end, and q has them after the men of p
record Finishes (p : Stock) (lines : List (List ℕ)) (q : Stock) : Type 0 where
  rest : List StockMan
  spelled : lines ≡ map man_text rest ++ end_line ∷ []
  men : q.men ≡ p.men ++ rest
  winner : q.winner ≡ p.winner
  writable : IsWritable q

finishes_end : (p : Stock) (line : List ℕ) (q : Stock) → length p.men ≤ MOST_STOCK → FeedsMen p line (complete q) → Finishes p (line ∷ []) q
finishes_end p line q high (inl (a, e, i)) = absurd cc
finishes_end p line q high (inr (inl (low, e, i))) =
    let same : p ≡ q = cc in
    subst (Finishes p (line ∷ [])) same
    (record {
      rest = [];
      spelled = ap (λ l. l ∷ []) e;
      men = sym (append-nil p.men);
      winner = refl;
      writable = record { low = low; high = high };
    })
finishes_end p line q high (inr (inr (inl (a, e, i)))) = absurd cc
finishes_end p line q high (inr (inr (inr (a, e, inl (m, hm, i))))) = absurd cc
finishes_end p line q high (inr (inr (inr (a, e, inr (none, i))))) = absurd cc

finishes_man : (p : Stock) (m : StockMan) {line : List ℕ} (lines : List (List ℕ)) (q : Stock) → line ≡ man_text m
    → Finishes (with_man p m) lines q → Finishes p (line ∷ lines) q
finishes_man p m lines q hm f =
    record {
      rest = m ∷ f.rest;
      spelled = ap (λ l. l ∷ lines) hm ∙ ap (λ l. man_text m ∷ l) f.spelled;
      men = f.men ∙ append_assoc p.men (m ∷ []) f.rest;
      winner = f.winner;
      writable = f.writable;
    }

-- a line after which the text continues is a man's
pub record GoesOn (p : Stock) (line : List ℕ) (next : StockState) : Type 0 where
  pub man : StockMan
  pub is_line : line ≡ man_text man
  pub room : length p.men < MOST_STOCK
  pub next_is : next ≡ state.Men (with_man p man)

pub goes_on : (p : Stock) (line : List ℕ) (next : StockState) → FeedsMen p line (more next) → GoesOn p line next
goes_on p line next (inl (a, e, i)) = absurd cc
goes_on p line next (inr (inl (a, e, i))) = absurd cc
goes_on p line next (inr (inr (inl (a, e, i)))) = absurd cc
goes_on p line next (inr (inr (inr (a, e, inl (m, hm, i))))) =
    record { man = m; is_line = hm; room = a; next_is = cc }
goes_on p line next (inr (inr (inr (a, e, inr (none, i))))) = absurd cc

more_room : (p : Stock) (m : StockMan) → length p.men < MOST_STOCK → length (with_man p m).men ≤ MOST_STOCK
more_room p m h = simp length-append (omega arith)

finishes : (p : Stock) (lines : List (List ℕ)) (q : Stock) → length p.men ≤ MOST_STOCK → Completes (state.Men p) lines q → Finishes p lines q
finishes p [] q high h = absurd h
finishes p (line ∷ []) q high h = finishes_end p line q high h
finishes p (line ∷ l ∷ lines) q high h =
    let on = goes_on p line h.0 h.1 in
    finishes_man p on.man (l ∷ lines) q on.is_line
    (finishes (with_man p on.man) (l ∷ lines) q (more_room p on.man on.room) (subst (λ s. Completes s (l ∷ lines) q) on.next_is h.2))

-- the line that names the winner
pub record HasWinner (line : List ℕ) (next : StockState) : Type 0 where
  pub winner : Side
  pub spelled : line ≡ winner_text winner
  pub next_is : next ≡ state.Men (no_men winner)

pub has_winner : (line : List ℕ) (next : StockState) → Feeds state.Winner line (more next) → HasWinner line next
has_winner line next (inl (w, e, i)) = record { winner = w; spelled = e; next_is = cc }
has_winner line next (inr (e, i)) = absurd cc

-- the line and those after it
record IsAfterHeader (lines : List (List ℕ)) (s : Stock) : Type 0 where
  spelled : lines ≡ winner_text s.winner ∷ (map man_text s.men ++ end_line ∷ [])
  writable : IsWritable s

from_finishes : (w : Side) (line : List ℕ) (lines : List (List ℕ)) (q : Stock) → line ≡ winner_text w
    → Finishes (no_men w) lines q → IsAfterHeader (line ∷ lines) q
from_finishes w line lines q e f =
    record {
      spelled = ap (λ l. l ∷ lines) (e ∙ sym (ap winner_text f.winner))
          ∙ ap (λ l. winner_text q.winner ∷ l) (f.spelled ∙ ap (λ men. map man_text men ++ end_line ∷ []) (sym f.men));
      writable = f.writable;
    }

after_header : (lines : List (List ℕ)) (s : Stock) → Completes state.Winner lines s → IsAfterHeader lines s
after_header [] s h = absurd h
after_header (line ∷ []) s (inl (w, e, i)) = absurd cc
after_header (line ∷ []) s (inr (e, i)) = absurd cc
after_header (line ∷ l ∷ lines) s h =
    let named = has_winner line h.0 h.1 in
    from_finishes named.winner line (l ∷ lines) s named.spelled
    (finishes (no_men named.winner) (l ∷ lines) s (omega arith) (subst (λ from. Completes from (l ∷ lines) s) named.next_is h.2))

-- the header, and the state after it
pub record HasHeader (line : List ℕ) (next : StockState) : Type 0 where
  pub spelled : line ≡ header
  pub next_is : next ≡ state.Winner

pub has_header : (line : List ℕ) (next : StockState) → Feeds state.Header line (more next) → HasHeader line next
has_header line next (inl (e, i)) = record { spelled = e; next_is = cc }
has_header line next (inr (e, i)) = absurd cc

pub accepted_is_spelled : AcceptedIsSpelled
accepted_is_spelled [] s h = absurd h
accepted_is_spelled (line ∷ []) s (inl (e, i)) = absurd cc
accepted_is_spelled (line ∷ []) s (inr (e, i)) = absurd cc
accepted_is_spelled (line ∷ l ∷ lines) s h =
    let first = has_header line h.0 h.1 in
    let rest = after_header (l ∷ lines) s (subst (λ from. Completes from (l ∷ lines) s) first.next_is h.2) in
    (ap (λ x. x ∷ l ∷ lines) first.spelled ∙ ap (λ x. header ∷ x) rest.spelled, rest.writable)

completes_more : (from next : StockState) (line : List ℕ) (men : List StockMan) (q : Stock) → Feeds from line (more next)
    → Completes next (map man_text men ++ end_line ∷ []) q → Completes from (line ∷ (map man_text men ++ end_line ∷ [])) q
completes_more from next line [] q f c = (next, f, c)
completes_more from next line (m ∷ men) q f c = (next, f, c)

completes_men : (rest : List StockMan) (p q : Stock) → q.men ≡ p.men ++ rest → q.winner ≡ p.winner → IsWritable q
    → Completes (state.Men p) (map man_text rest ++ end_line ∷ []) q
completes_men [] p q men winner writable =
    let same : q.men ≡ p.men = men ∙ append-nil p.men in
    let is : q ≡ p = λ i. record { winner = winner i; men = same i } in
    inr (inl (subst (λ k. 2 ≤ length k.men) is writable.low, refl, ap complete is))
completes_men (m ∷ rest) p q men winner writable =
    let longer : length q.men ≡ length p.men + length (m ∷ rest) = ap length men ∙ length-append p.men (m ∷ rest) in
    let room : length p.men < MOST_STOCK = omega (arith, longer, writable.high) in
    let feeds : Feeds (state.Men p) (man_text m) (more (state.Men (with_man p m))) =
    inr (inr (inr (room, man_not_end m, inl (m, refl, refl)))) in
    completes_more (state.Men p) (state.Men (with_man p m)) (man_text m) rest q feeds
    (completes_men rest (with_man p m) q (men ∙ sym (append_assoc p.men (m ∷ []) rest)) winner writable)

pub spelled_is_accepted : SpelledIsAccepted
spelled_is_accepted s h = (
  state.Winner,
  inl (refl, refl),
  completes_more state.Winner (state.Men (no_men s.winner)) (winner_text s.winner) s.men s (inl (s.winner, refl, refl))
      (completes_men s.men (no_men s.winner) s refl refl h),
)
