-- The greatest number of states of a claim's sets.
use Rattle.std.proofs.Common.{◌≡◌, ℕ, ◌+◌, ◌<◌, ◌≤◌, List, [], ◌∷◌, map, max, take, length, get_or, All, sym, ap, subst, arith}
use Rattle.std.specs.List.{AllZip}
use Rattle.std.proofs.lemmas.List.Elements.{All-cons, All-head, All-map, All-more, All-nil, All-tail, All-weaker}
use Rattle.mate_plan.specs.Claim.{Claim, ClaimedSet}
use Rattle.strategy_file.specs.Fitting.{HasFile, IsFormed}
use Rattle.strategy_file.specs.declared.most.TheConstants.{MOST_FILED_STATES}
use Rattle.strategy_file.specs.declared.version.Version.{Version}
use Rattle.strategy_writer.specs.Files.{HasFiledSets, IsMostStatesOf}
use Rattle.strategy_writer.specs.KeptClaims.{as_claim, as_set}
use Rattle.strategy_writer.specs.declared.kept_claim.KeptClaim.{KeptClaim}
use Rattle.strategy_writer.specs.declared.kept_claim.KeptSet.{KeptSet}
use Rattle.strategy_writer.proofs.AlikeFiles.{AreAlike, AreAlikeClaims}

-- a set has at most this number of states
abbrev HasAtMost : ℕ → ClaimedSet → Type 0
HasAtMost n d = length d.set.accept ≤ n

-- ---- in memory

-- a kept set has at most this number of states
abbrev pub KeepsAtMost : ℕ → KeptSet → Type 0
KeepsAtMost n s = length s.set.accept ≤ n

keeps_more : (m n : ℕ) → m ≤ n → (s : KeptSet) → KeepsAtMost m s → KeepsAtMost n s
keeps_more m n more s h = let few : length s.set.accept ≤ m = h in omega (arith, few, more)

pub sets_more : (sets : List KeptSet) (k : ℕ) (d : KeptSet) (most states next : ℕ) → k < length sets → All (KeepsAtMost most) (take k sets)
    → KeepsAtMost states (get_or sets k d) → next ≡ max most states → All (KeepsAtMost next) (take (k + 1) sets)
sets_more sets k d most states next inside before here is =
    All-more (KeepsAtMost next) sets k d inside
    (All-weaker (KeepsAtMost most) (KeepsAtMost next) (keeps_more most next (omega (arith, is))) (take k sets) before)
    (keeps_more states next (omega (arith, is)) (get_or sets k d) here)

unmapped : (n : ℕ) (xs : List KeptSet) → All (HasAtMost n) (map as_set xs) → All (KeepsAtMost n) xs
unmapped n [] h = All-nil (KeepsAtMost n)
unmapped n (x ∷ xs) h =
    All-cons (KeepsAtMost n) x xs (All-head (HasAtMost n) (as_set x) (map as_set xs) h)
    (unmapped n xs (All-tail (HasAtMost n) (as_set x) (map as_set xs) h))

pub most_states_of : (c : KeptClaim) (most : ℕ) → All (KeepsAtMost most) c.sets.items
    → ((n : ℕ) → All (KeepsAtMost n) c.sets.items → most ≤ n) → IsMostStatesOf (as_claim c) most
most_states_of c most within least = record {
  within = All-map (HasAtMost most) as_set c.sets.items within;
  least = λ n all. least n (unmapped n c.sets.items all);
}

-- ---- sets that are small enough

at_most_more : (m n : ℕ) → m ≤ n → (d : ClaimedSet) → HasAtMost m d → HasAtMost n d
at_most_more m n more d h = let few : length d.set.accept ≤ m = h in omega (arith, few, more)

pub few_of : {c : Claim} (states : ℕ) → IsMostStatesOf c states → states ≤ MOST_FILED_STATES → HasFiledSets c
few_of {c} states most small =
    All-weaker (HasAtMost states) (HasAtMost MOST_FILED_STATES) (at_most_more states MOST_FILED_STATES small) c.sets most.within

pub formed_few : {version : Version} (c : Claim) → HasFile version c → HasFiledSets c
formed_few c h = All-weaker (IsFormed c.position) (HasAtMost MOST_FILED_STATES) (λ d f. f.few) c.sets h.sets

pub too_many : {c : Claim} {states : ℕ} → HasFiledSets c → IsMostStatesOf c states → MOST_FILED_STATES < states → ⊥
too_many {c} {states} few most large = let h = most.least MOST_FILED_STATES few in absurd (omega (arith, h, large))

-- ---- claims that are alike

at_most_alike : (n : ℕ) (xs ys : List ClaimedSet) → AllZip AreAlike xs ys → All (HasAtMost n) ys → All (HasAtMost n) xs
at_most_alike n [] [] h all = All-nil (HasAtMost n)
at_most_alike n [] (y ∷ ys) h all = absurd h
at_most_alike n (x ∷ xs) [] h all = absurd h
at_most_alike n (x ∷ xs) (y ∷ ys) h all =
    let equal = h.0.equal in
    let here : HasAtMost n y = All-head (HasAtMost n) y ys all in
    let there : HasAtMost n x = subst (λ (k : ℕ). k ≤ n) (sym (ap length equal.accept)) here in
    All-cons (HasAtMost n) x xs there (at_most_alike n xs ys h.1 (All-tail (HasAtMost n) y ys all))

pub few_alike : {c d : Claim} → AreAlikeClaims c d → HasFiledSets d → HasFiledSets c
few_alike {c} {d} h few = at_most_alike MOST_FILED_STATES c.sets d.sets h.sets few

pub most_alike : {c d : Claim} {m n : ℕ} → AreAlikeClaims c d → AreAlikeClaims d c → IsMostStatesOf c m → IsMostStatesOf d n → m ≡ n
most_alike {c} {d} {m} {n} h back hc hd =
    let up = hc.least n (at_most_alike n c.sets d.sets h.sets hd.within) in
    let down = hd.least m (at_most_alike m d.sets c.sets back.sets hc.within) in
    omega (arith, up, down)
