-- What lines make of a text.
use Rattle.std.specs.Int.{w64}
use Rattle.std.proofs.Common.{◌≡◌, inl, inr, ℕ, ◌+◌, ◌<◌, ◌≤◌, List, [], ◌∷◌, ◌++◌, length, map, refl, sym, ap, ◌∙◌, subst, arith, append_assoc, length-append, ℤ, pos, negsuc, FitsSigned, slice_index_or}
use Rattle.std.specs.List.{All}
use Rattle.std.proofs.lemmas.List.{append-nil}
use Rattle.std.proofs.lemmas.List.Elements.{All-cons, All-nil, All-head, All-tail}
use Rattle.game_rules.specs.declared.men.Side.{Side}
use Rattle.game_rules.specs.declared.men.Man.{Man}
use Rattle.game_rules.specs.declared.men.Place.{Place}
use Rattle.game_rules.specs.declared.men.Place.TheVariants.{Gone, At}
use Rattle.chess_text.specs.Draft.{Draft, nobody, with_man}
use Rattle.chess_text.specs.Grammar.{IsCoordinateOf, IsPlaceOf, positions}
use Rattle.chess_text.specs.Laws.{AcceptedIsSpelled, FeedsOnce, PositionsAreWritable, SpelledIsAccepted}
use Rattle.chess_text.specs.ManLine.{IsManLine, man_text, turn_text}
use Rattle.chess_text.specs.PositionText.{Completes, Feeds, FeedsMan, FeedsMen, FitsPlace, IsDraftOf, Turnout, end_line, more, wrong, complete}
use Rattle.chess_text.specs.declared.grammar.Grammar.{Grammar}
use Rattle.chess_text.specs.declared.reader.ReaderState.{ReaderState}
use Rattle.chess_text.specs.declared.reader.ReaderState.TheVariants as stage
use Rattle.chess_text.proofs.Spellings.{man_no_refusal, one_refusal, place_fits, same_man, same_turn}

-- a man's line is not the end
man_not_end : (m : Man) → man_text m ≡ end_line → ⊥
man_not_end m h = cc

man_once : (g : Grammar) (d : Draft) (line : List ℕ) (one other : Turnout) → FeedsMan g d line one → FeedsMan g d line other → one ≡ other
man_once g d line one other (inl (m, hm, im)) (inl (n, hn, in')) = im ∙ ap (λ k. more (stage.Men (with_man d k))) (same_man hm hn) ∙ sym in'
man_once g d line one other (inl (m, hm, im)) (inr (reason, r, ir)) = absurd (man_no_refusal reason hm r)
man_once g d line one other (inr (reason, r, ir)) (inl (n, hn, in')) = absurd (man_no_refusal reason hn r)
man_once g d line one other (inr (reason, r, ir)) (inr (again, a, ia)) = ir ∙ ap wrong (one_refusal g line reason again r a) ∙ sym ia

men_once : (g : Grammar) (d : Draft) (line : List ℕ) (one other : Turnout) → FeedsMen g d line one → FeedsMen g d line other → one ≡ other
men_once g d line one other (inl (a, e, i)) (inl (b, f, j)) = i ∙ sym j
men_once g d line one other (inl (a, e, i)) (inr (inl (b, f, j))) = absurd (omega arith)
men_once g d line one other (inl (a, e, i)) (inr (inr (inl (b, f, j)))) = absurd (f e)
men_once g d line one other (inl (a, e, i)) (inr (inr (inr (b, f, j)))) = absurd (f e)
men_once g d line one other (inr (inl (a, e, i))) (inl (b, f, j)) = absurd (omega arith)
men_once g d line one other (inr (inl (a, e, i))) (inr (inl (b, f, j))) = i ∙ sym j
men_once g d line one other (inr (inl (a, e, i))) (inr (inr (inl (b, f, j)))) = absurd (f e)
men_once g d line one other (inr (inl (a, e, i))) (inr (inr (inr (b, f, j)))) = absurd (f e)
men_once g d line one other (inr (inr (inl (a, e, i)))) (inl (b, f, j)) = absurd (e f)
men_once g d line one other (inr (inr (inl (a, e, i)))) (inr (inl (b, f, j))) = absurd (e f)
men_once g d line one other (inr (inr (inl (a, e, i)))) (inr (inr (inl (b, f, j)))) = i ∙ sym j
men_once g d line one other (inr (inr (inl (a, e, i)))) (inr (inr (inr (b, f, j)))) = absurd (omega arith)
men_once g d line one other (inr (inr (inr (a, e, i)))) (inl (b, f, j)) = absurd (e f)
men_once g d line one other (inr (inr (inr (a, e, i)))) (inr (inl (b, f, j))) = absurd (e f)
men_once g d line one other (inr (inr (inr (a, e, i)))) (inr (inr (inl (b, f, j)))) = absurd (omega arith)
men_once g d line one other (inr (inr (inr (a, e, i)))) (inr (inr (inr (b, f, j)))) = man_once g d line one other i j

pub feeds_once : FeedsOnce
feeds_once g stage.Header line one other (inl (e, i)) (inl (f, j)) = i ∙ sym j
feeds_once g stage.Header line one other (inl (e, i)) (inr (f, j)) = absurd (f e)
feeds_once g stage.Header line one other (inr (e, i)) (inl (f, j)) = absurd (e f)
feeds_once g stage.Header line one other (inr (e, i)) (inr (f, j)) = i ∙ sym j
feeds_once g stage.Turn line one other (inl (s, w, e, i)) (inl (t, v, f, j)) =
    let same = same_turn s w t v (sym e ∙ f) in
    let turn = same.0 in
    let winner = same.1 in
    i ∙ ap more (λ k. stage.Men (nobody (turn k) (winner k))) ∙ sym j
feeds_once g stage.Turn line one other (inl (s, w, e, i)) (inr (f, j)) = absurd (f s w e)
feeds_once g stage.Turn line one other (inr (e, i)) (inl (t, v, f, j)) = absurd (e t v f)
feeds_once g stage.Turn line one other (inr (e, i)) (inr (f, j)) = i ∙ sym j
feeds_once g (stage.Men d) line one other a b = men_once g d line one other a b

-- the lines are those of further men and the end, and q has them behind the men of p
record Finishes (g : Grammar) (p : Draft) (lines : List (List ℕ)) (q : Draft) : Type 0 where
  rest : List Man
  spelled : lines ≡ map man_text rest ++ end_line ∷ []
  men : q.men ≡ p.men ++ rest
  turn : q.turn ≡ p.turn
  winner : q.winner ≡ p.winner
  low : 2 ≤ length q.men
  high : length q.men ≤ g.most_men
  fit : All (λ m. IsPlaceOf g m.place) rest

finishes_end : {g : Grammar} (p : Draft) (line : List ℕ) (q : Draft) → length p.men ≤ g.most_men → FeedsMen g p line (complete q)
    → Finishes g p (line ∷ []) q
finishes_end p line q high (inl (a, e, i)) = absurd cc
finishes_end {g} p line q high (inr (inl (low, e, i))) =
    let same : p ≡ q = cc in
    subst (Finishes g p (line ∷ [])) same
    (record {
      rest = [];
      spelled = ap (λ l. l ∷ []) e;
      men = sym (append-nil p.men);
      turn = refl;
      winner = refl;
      low = low;
      high = high;
      fit = All-nil (λ m. IsPlaceOf g m.place);
    })
finishes_end p line q high (inr (inr (inl (a, e, i)))) = absurd cc
finishes_end p line q high (inr (inr (inr (a, e, inl (m, hm, i))))) = absurd cc
finishes_end p line q high (inr (inr (inr (a, e, inr (reason, r, i))))) = absurd cc

finishes_man : {g : Grammar} (p : Draft) {m : Man} {line : List ℕ} (lines : List (List ℕ)) (q : Draft) → IsManLine g line m
    → Finishes g (with_man p m) lines q → Finishes g p (line ∷ lines) q
finishes_man {g} p {m} lines q hm f =
    record {
      rest = m ∷ f.rest;
      spelled = ap (λ l. l ∷ lines) hm.spelled ∙ ap (λ l. man_text m ∷ l) f.spelled;
      men = f.men ∙ append_assoc p.men (m ∷ []) f.rest;
      turn = f.turn;
      winner = f.winner;
      low = f.low;
      high = f.high;
      fit = All-cons (λ k. IsPlaceOf g k.place) m f.rest hm.fits f.fit;
    }

-- a line that the text goes on after is a man's
record GoesOn (g : Grammar) (p : Draft) (line : List ℕ) (next : ReaderState) : Type 0 where
  man : Man
  is_line : IsManLine g line man
  room : length p.men < g.most_men
  next_is : next ≡ stage.Men (with_man p man)

goes_on : {g : Grammar} (p : Draft) (line : List ℕ) (next : ReaderState) → FeedsMen g p line (more next) → GoesOn g p line next
goes_on p line next (inl (a, e, i)) = absurd cc
goes_on p line next (inr (inl (a, e, i))) = absurd cc
goes_on p line next (inr (inr (inl (a, e, i)))) = absurd cc
goes_on p line next (inr (inr (inr (a, e, inl (m, hm, i))))) =
    record { man = m; is_line = hm; room = a; next_is = cc }
goes_on p line next (inr (inr (inr (a, e, inr (reason, r, i))))) = absurd cc

more_room : {n : ℕ} (p : Draft) (m : Man) → length p.men < n → length (with_man p m).men ≤ n
more_room p m h = simp length-append (omega arith)

finishes : (g : Grammar) (p : Draft) (lines : List (List ℕ)) (q : Draft) → length p.men ≤ g.most_men → Completes g (stage.Men p) lines q
    → Finishes g p lines q
finishes g p [] q high h = absurd h
finishes g p (line ∷ []) q high h = finishes_end p line q high h
finishes g p (line ∷ l ∷ lines) q high h =
    let on = goes_on p line h.0 h.1 in
    finishes_man p (l ∷ lines) q on.is_line
    (finishes g (with_man p on.man) (l ∷ lines) q (more_room p on.man on.room) (subst (λ s. Completes g s (l ∷ lines) q) on.next_is h.2))

-- the line of the side to move and of the side that is to mate
record HasTurn (line : List ℕ) (next : ReaderState) : Type 0 where
  side : Side
  winner : Side
  spelled : line ≡ turn_text side winner
  next_is : next ≡ stage.Men (nobody side winner)

has_turn : (g : Grammar) (line : List ℕ) (next : ReaderState) → Feeds g stage.Turn line (more next) → HasTurn line next
has_turn g line next (inl (s, w, e, i)) = record { side = s; winner = w; spelled = e; next_is = cc }
has_turn g line next (inr (e, i)) = absurd cc

-- the line and those after it
record IsAfterHeader (g : Grammar) (lines : List (List ℕ)) (d : Draft) : Type 0 where
  spelled : lines ≡ turn_text d.turn d.winner ∷ (map man_text d.men ++ end_line ∷ [])
  says : IsDraftOf g d

from_finishes : {g : Grammar} (s w : Side) (line : List ℕ) (lines : List (List ℕ)) (q : Draft) → line ≡ turn_text s w
    → Finishes g (nobody s w) lines q → IsAfterHeader g (line ∷ lines) q
from_finishes {g} s w line lines q e f =
    let turn = f.turn in
    let winner = f.winner in
    record {
      spelled = ap (λ l. l ∷ lines) (e ∙ sym (λ i. turn_text (turn i) (winner i)))
          ∙ ap (λ l. turn_text q.turn q.winner ∷ l) (f.spelled ∙ ap (λ men. map man_text men ++ end_line ∷ []) (sym f.men));
      says = record {
        low = f.low;
        high = f.high;
        fit = subst (All (λ m. IsPlaceOf g m.place)) (sym f.men) f.fit;
      };
    }

after_header : (g : Grammar) (lines : List (List ℕ)) (d : Draft) → Completes g stage.Turn lines d → IsAfterHeader g lines d
after_header g [] d h = absurd h
after_header g (line ∷ []) d (inl (s, w, e, i)) = absurd cc
after_header g (line ∷ []) d (inr (e, i)) = absurd cc
after_header g (line ∷ l ∷ lines) d h =
    let turn = has_turn g line h.0 h.1 in
    from_finishes turn.side turn.winner line (l ∷ lines) d turn.spelled
    (finishes g (nobody turn.side turn.winner) (l ∷ lines) d (omega arith) (subst (λ s. Completes g s (l ∷ lines) d) turn.next_is h.2))

-- the header, and the stage after it
record HasHeader (g : Grammar) (line : List ℕ) (next : ReaderState) : Type 0 where
  spelled : line ≡ g.header
  next_is : next ≡ stage.Turn

has_header : (g : Grammar) (line : List ℕ) (next : ReaderState) → Feeds g stage.Header line (more next) → HasHeader g line next
has_header g line next (inl (e, i)) = record { spelled = e; next_is = cc }
has_header g line next (inr (e, i)) = absurd cc

pub accepted_is_spelled : AcceptedIsSpelled
accepted_is_spelled g [] d h = absurd h
accepted_is_spelled g (line ∷ []) d (inl (e, i)) = absurd cc
accepted_is_spelled g (line ∷ []) d (inr (e, i)) = absurd cc
accepted_is_spelled g (line ∷ l ∷ lines) d h =
    let first = has_header g line h.0 h.1 in
    let rest = after_header g (l ∷ lines) d (subst (λ s. Completes g s (l ∷ lines) d) first.next_is h.2) in
    (ap (λ x. x ∷ l ∷ lines) first.spelled ∙ ap (λ x. g.header ∷ x) rest.spelled, rest.says)

completes_more : (g : Grammar) (s next : ReaderState) (line : List ℕ) (men : List Man) (q : Draft) → Feeds g s line (more next)
    → Completes g next (map man_text men ++ end_line ∷ []) q → Completes g s (line ∷ (map man_text men ++ end_line ∷ [])) q
completes_more g s next line [] q f c = (next, f, c)
completes_more g s next line (m ∷ men) q f c = (next, f, c)

completes_men : (g : Grammar) (rest : List Man) (p q : Draft) → q.men ≡ p.men ++ rest → q.turn ≡ p.turn → q.winner ≡ p.winner
    → 2 ≤ length q.men → length q.men ≤ g.most_men → All (λ m. IsPlaceOf g m.place) rest
    → Completes g (stage.Men p) (map man_text rest ++ end_line ∷ []) q
completes_men g [] p q men turn winner low high fit =
    let same : q.men ≡ p.men = men ∙ append-nil p.men in
    let is : q ≡ p = λ i. record { men = same i; turn = turn i; winner = winner i } in
    inr (inl (subst (λ k. 2 ≤ length k.men) is low, refl, ap complete is))
completes_men g (m ∷ rest) p q men turn winner low high fit =
    let longer : length q.men ≡ length p.men + length (m ∷ rest) = ap length men ∙ length-append p.men (m ∷ rest) in
    let room : length p.men < g.most_men = omega arith in
    let line : IsManLine g (man_text m) m = record { spelled = refl; fits = All-head (λ k. IsPlaceOf g k.place) m rest fit } in
    let feeds : Feeds g (stage.Men p) (man_text m) (more (stage.Men (with_man p m))) =
    inr (inr (inr (room, man_not_end m, inl (m, line, refl)))) in
    completes_more g (stage.Men p) (stage.Men (with_man p m)) (man_text m) rest q feeds
    (completes_men g rest (with_man p m) q (men ∙ sym (append_assoc p.men (m ∷ []) rest)) turn winner low high
    (All-tail (λ k. IsPlaceOf g k.place) m rest fit))

pub spelled_is_accepted : SpelledIsAccepted
spelled_is_accepted g d h = (
  stage.Turn,
  inl (refl, refl),
  completes_more g stage.Turn (stage.Men (nobody d.turn d.winner)) (turn_text d.turn d.winner) d.men d (inl (d.turn, d.winner, refl, refl))
      (completes_men g d.men (nobody d.turn d.winner) d refl refl refl h.low h.high h.fit),
)

-- each number of 64 bits is a coordinate of a position text
any_coordinate : (z : ℤ) → FitsSigned w64 z → IsCoordinateOf positions z
any_coordinate (pos n) fits = record { fits = fits; near = omega (arith, fits) }
any_coordinate (negsuc n) fits = record { fits = fits; near = omega (arith, fits) }

any_place : (a : Place) → FitsPlace a → IsPlaceOf positions a
any_place Gone h = h
any_place (At x y) h = (any_coordinate x h.0, any_coordinate y h.1)

pub positions_writable : PositionsAreWritable
positions_writable p winner = (
  λ d. record { low = d.low; high = d.high; fit = λ k m lt. place_fits positions (slice_index_or p.men k m).place (d.fit k m lt) },
  λ w. record { low = w.low; high = w.high; fit = λ k m lt. any_place (slice_index_or p.men k m).place (w.fit k m lt) },
)
