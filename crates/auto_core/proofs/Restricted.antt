-- Letters over some of the tracks, and rows that are read over more tracks. Crates above cite these lemmas.
use Rattle.std.proofs.Common.{◌≡◌, ℕ, suc, ◌<◌, ◌+◌, ◌*◌, ◌^◌, List, [], ◌∷◌, length, map, arith, refl, sym, ap, subst}
use Rattle.std.specs.List.{All}
use Rattle.std.specs.Int.{bit_at}
use Rattle.std.proofs.lemmas.List.{length-map}
use Rattle.std.proofs.lemmas.List.Elements.{All-cons}
use Rattle.std.proofs.lemmas.Nat.Bits.{bit_at-lt}
use Rattle.track_word.specs.declared.tracks.Var.{Var}
use Rattle.track_word.specs.Tracks.{place, restrict}
use Rattle.letter_diagram.specs.Diagram.{LooksBelow}
use Rattle.letter_diagram.specs.Relabelled.{relabelled}
use Rattle.auto_core.specs.Automaton.{Automaton}
use Rattle.auto_core.specs.Rows.{IsOverNodes, all_nodes}

pub relabelled-places : (all some : List Var) (letter : ℕ) → relabelled (map (place all) some) letter ≡ restrict all some letter
relabelled-places all [] letter = refl
relabelled-places all (v ∷ vs) letter = ap (λ n. bit_at letter (place all v) + 2 * n) (relabelled-places all vs letter)

pub restrict-below : (all some : List Var) (letter : ℕ) → restrict all some letter < 2 ^ length some
restrict-below all [] letter = omega arith
restrict-below all (v ∷ vs) letter =
    let rest = restrict-below all vs letter in
    let bit = bit_at-lt letter (place all v) in
    let double : 2 ^ suc (length vs) ≡ 2 * 2 ^ length vs = omega arith in
    subst (λ n. bit_at letter (place all v) + 2 * restrict all vs letter < n) (sym double) (omega (arith, rest, bit))

pub all_narrow : {a : Automaton} (all : List Var) → IsOverNodes a → All (λ node. LooksBelow a.shapes node (length (map (place all) a.tracks))) (all_nodes a)
all_narrow {a} all over =
    subst (λ bound. All (λ node. LooksBelow a.shapes node bound) (all_nodes a)) (sym (length-map a.tracks (place all)))
    (All-cons (λ node. LooksBelow a.shapes node (length a.tracks)) a.first_node a.row_nodes over.nodes.first_narrow over.nodes.rows_narrow)
