-- One more mark, and cells that are listed.
use Rattle.std.proofs.Common.{◌≡◌, ℕ, ◌*◌, ◌^◌, ◌%◌, ◌<◌, List, length, get_or, set, bit_or, Option, Some, None, inl, inr, sym, ap, ◌∙◌}
use Rattle.std.specs.Int.{bit_at, w16}
use Rattle.std.proofs.lemmas.Bool.{cases_eq}
use Rattle.std.proofs.lemmas.List.{get_or-set_same, get_or-set_other}
use Rattle.std.proofs.lemmas.Nat.{same_from_place}
use Rattle.std.proofs.lemmas.Nat.Bits.{bit_at_set_other}
use Rattle.auto_core.specs.Automaton.{Automaton}
use Rattle.auto_search.specs.declared.ray.TrackRay.{TrackRay}
use Rattle.auto_search.specs.Bits.{slot_of}
use Rattle.auto_search.specs.Search.{IsDead, Remembers, cell_of}
use Rattle.auto_search.specs.declared.marks.Marks.{Marks}
use Rattle.auto_search.specs.Marks.{IsMarked, SameRoom}

pub IsMarked-set : (failed : List ℕ) (cell slot : ℕ) → slot < 16 → cell < length failed → IsMarked failed (set failed cell (bit_or (get_or failed cell 0) (1 * 2 ^ slot % 65536))) cell slot
IsMarked-set failed cell slot small inside = record {
  marks = λ k i m.
      let word = bit_or (get_or failed cell 0) (1 * 2 ^ slot % 65536) in
      elim (cases_eq k cell) [
        | inl e ↦
            elim (cases_eq i slot) [
              | inl o ↦ inr (e, o)
              | inr ne ↦
                  let m1 = rw e at m in
                  let m2 = rw (get_or-set_same failed cell word 0 inside) at m1 in
                  inl (rw e (sym (bit_at_set_other w16 (get_or failed cell 0) slot small i ne) ∙ m2))
            ]
        | inr ne ↦ inl (sym (ap (λ n. bit_at n i) (get_or-set_other failed cell k word 0 ne)) ∙ m)
      ];
}

-- marks at the states of a front that no bits complete
pub Remembers-marked : {a : Automaton} {ray : TrackRay} {old : List ℕ} (new : List ℕ) (place state slot : ℕ) (front : List (Option ℕ)) → Remembers a ray old
    → state < length a.accept → IsMarked old new (cell_of a place state) slot
    → get_or front slot None ≡ Some state → IsDead a ray place front → Remembers a ray new
Remembers-marked {a} {ray} new place state slot front known small is found dead = record {
  dead = λ bits state' below marked leads. elim (is.marks (cell_of a (length bits) state') (slot_of ray bits) marked) [
    | inl before ↦ known.dead bits state' below before leads
    | inr here ↦
        let same = same_from_place (length bits) state' place state (length a.accept) below small here.0 in
        dead.none bits same.0 (record { state = state'; found = ap (λ k. get_or front k None) here.1 ∙ found ∙ ap Some (sym same.1); leads = leads })
  ];
}

-- as many cells as twice before
pub SameRoom-trans : {a b c : Marks} → SameRoom a b → SameRoom b c → SameRoom a c
SameRoom-trans p q = record { failed_kept = q.failed_kept ∙ p.failed_kept; cells_kept = q.cells_kept ∙ p.cells_kept }
