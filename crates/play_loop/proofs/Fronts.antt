-- Fronts of what is written.
use Rattle.std.proofs.Common.{◌≡◌, ℕ, suc, ◌+◌, List, [], ◌∷◌, ◌++◌, length, take, Option, sym, ap, subst, ◌∙◌, arith, length-append}
use Rattle.std.specs.Io.KnownBytes.{Appends}
use Rattle.std.proofs.KnownBytes.{Appends-trans}
use Rattle.std.proofs.lemmas.List.{take-append-le}
use Rattle.desk_base.specs.Moves.{AppendsFront}

pub front_more : {old new : Option (List ℕ)} {bytes : List ℕ} (more : List ℕ) → AppendsFront old new bytes → AppendsFront old new (bytes ++ more)
front_more {old} {new} {bytes} more h = record {
  count = h.count;
  proper = let low = h.proper in omega (arith, low, length-append bytes more);
  front = subst (Appends old new) (sym (take-append-le h.count bytes more (let low = h.proper in omega (arith, low)))) h.front;
}

take_behind : (bytes more : List ℕ) (n : ℕ) → take (length bytes + n) (bytes ++ more) ≡ bytes ++ take n more
take_behind [] more n = ap (λ k. take k more) (let e : 0 + n ≡ n = omega arith in e)
take_behind (b ∷ bytes) more n =
    let e : suc (length bytes) + n ≡ suc (length bytes + n) = omega arith in
    ap (λ k. take k (b ∷ (bytes ++ more))) e ∙ ap (λ xs. b ∷ xs) (take_behind bytes more n)

pub front_behind : (old : Option (List ℕ)) {mid new : Option (List ℕ)} (bytes : List ℕ) {more : List ℕ} → Appends old mid bytes → AppendsFront mid new more → AppendsFront old new (bytes ++ more)
front_behind old {mid} {new} bytes {more} all h = record {
  count = length bytes + h.count;
  proper = let low = h.proper in omega (arith, low, length-append bytes more);
  front = subst (Appends old new) (sym (take_behind bytes more h.count)) (Appends-trans old mid new bytes (take h.count more) all h.front);
}

-- of a text followed by a prefix of another, with more after it
pub front_at : (old : Option (List ℕ)) {mid new : Option (List ℕ)} (bytes : List ℕ) {text : List ℕ} (more : List ℕ) → Appends old mid bytes → (h : AppendsFront mid new text)
    → Appends old new (take (length bytes + h.count) (bytes ++ (text ++ more)))
front_at old {mid} {new} bytes {text} more all h =
    let low = h.proper in
    let same : take (length bytes + h.count) (bytes ++ (text ++ more)) ≡ bytes ++ take h.count text =
    take_behind bytes (text ++ more) h.count ∙ ap (λ xs. bytes ++ xs) (take-append-le h.count text more (omega (arith, low))) in
    subst (Appends old new) (sym same) (Appends-trans old mid new bytes (take h.count text) all h.front)
