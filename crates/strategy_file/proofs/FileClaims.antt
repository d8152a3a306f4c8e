-- What has a file is a claim. Other crates cite these lemmas.
use Rattle.std.proofs.Common.{length, ◌≡◌, ◌≢◌, ℕ, Bool, true, false, ◌&&◌, ◌==◌, List, [], ◌∷◌, map, Option, Some, None, inl, inr, refl, sym, ap, ◌∙◌, subst}
use Rattle.std.specs.Prelude.{Contains, if◌then◌else◌}
use Rattle.std.proofs.lemmas.Bool.{eqb-true, eq-eqb, and_from, and_parts}
use Rattle.std.proofs.lemmas.List.Elements.{All-contains}
use Rattle.auto_core.specs.Automaton.{Automaton}
use Rattle.rule_formula.specs.Fits.{IsGameMask}
use Rattle.rule_formula.specs.Mean.{mask_tracks}
use Rattle.set_plan.proofs.Takings.{contains_cases, contains_head, contains_none, contains_rest}
use Rattle.mate_plan.specs.Claim.{Claim, ClaimedSet, IsClaim, IsLosersPly, claimed_in}
use Rattle.strategy_file.specs.declared.version.Version.{Version}
use Rattle.strategy_file.proofs.Greatest.{few_men}
use Rattle.strategy_file.specs.Fitting.{HasFile, IsFormed}
use Rattle.strategy_file.specs.Laws.{FilesAreClaims}
use Rattle.strategy_file.specs.StrategyFile.{places_of}
use Rattle.strategy_file.proofs.LosersPlies.{places_of-are}

abbrev pub place_of : ClaimedSet → ℕ × ℕ
place_of s = (s.ply, s.mask)

-- a set of the place is there, and it is the one that is looked up
pub record IsFound (sets : List ClaimedSet) (ply mask : ℕ) (a : Automaton) : Type 0 where
  pub claimed : ClaimedSet
  pub has : Contains sets claimed
  pub ply_is : claimed.ply ≡ ply
  pub mask_is : claimed.mask ≡ mask
  pub set_is : claimed.set ≡ a

module _ (ply mask : ℕ) (a : Automaton) (s : ClaimedSet) (sets : List ClaimedSet) where
  found_by : (b : Bool) → ((s.ply == ply) && (s.mask == mask)) ≡ b → (claimed_in sets ply mask ≡ Some a → IsFound sets ply mask a)
      → (if b then Some s.set else claimed_in sets ply mask) ≡ Some a → IsFound (s ∷ sets) ply mask a
  found_by true e later h =
      let both = and_parts (s.ply == ply) (s.mask == mask) e in
      record { claimed = s; has = contains_head s sets; ply_is = eqb-true s.ply ply both.0; mask_is = eqb-true s.mask mask both.1; set_is = cc }
  found_by false e later h =
      let rest = later h in
      record { claimed = rest.claimed; has = contains_rest s sets rest.claimed rest.has; ply_is = rest.ply_is; mask_is = rest.mask_is; set_is = rest.set_is }

pub found_in : (sets : List ClaimedSet) (ply mask : ℕ) (a : Automaton) → claimed_in sets ply mask ≡ Some a → IsFound sets ply mask a
found_in [] ply mask a h = absurd cc
found_in (s ∷ sets) ply mask a h = found_by ply mask a s sets ((s.ply == ply) && (s.mask == mask)) refl (found_in sets ply mask a) h

some_by : (b : Bool) (a : Automaton) (rest : Option Automaton) → rest ≢ None → (if b then Some a else rest) ≢ None
some_by true a rest h = λ e. cc
some_by false a rest h = h

some_at : (b : Bool) (a : Automaton) (rest : Option Automaton) → b ≡ true → (if b then Some a else rest) ≢ None
some_at true a rest h = λ e. cc
some_at false a rest h = absurd cc

pub is_some_in : (sets : List ClaimedSet) (ply mask : ℕ) → Contains {X = ℕ × ℕ} (map place_of sets) (ply, mask) → claimed_in sets ply mask ≢ None
is_some_in [] ply mask h = absurd (contains_none (ply, mask) h)
is_some_in (s ∷ sets) ply mask h =
    let test = (s.ply == ply) && (s.mask == mask) in
    elim (contains_cases (place_of s) (map place_of sets) (ply, mask) h) [
      | inl same ↦
          some_at test s.set (claimed_in sets ply mask)
          (and_from (s.ply == ply) (s.mask == mask) (eq-eqb s.ply ply (ap (λ p. p.0) same)) (eq-eqb s.mask mask (ap (λ p. p.1) same)))
      | inr later ↦ some_by test s.set (claimed_in sets ply mask) (is_some_in sets ply mask later)
    ]

-- the place of a set that is there is one of the places
pub place_in : (sets : List ClaimedSet) (s : ClaimedSet) → Contains sets s → Contains (map place_of sets) (place_of s)
place_in [] s h = absurd (contains_none s h)
place_in (d ∷ sets) s h =
    elim (contains_cases d sets s h) [
      | inl same ↦ subst (λ x. Contains (map place_of (d ∷ sets)) (place_of x)) same (contains_head (place_of d) (map place_of sets))
      | inr later ↦ contains_rest (place_of d) (map place_of sets) (place_of s) (place_in sets s later)
    ]

-- where the sets have all places, a set that is there has a place of the loser
pub at_place : (c : Claim) → map place_of c.sets ≡ places_of c.winner c.position c.moves → {ply mask : ℕ} {a : Automaton} → IsFound c.sets ply mask a
    → IsLosersPly c.winner c.position c.moves ply × IsGameMask c.position mask
at_place c places f =
    let there = subst (λ ps. Contains ps (place_of f.claimed)) places (place_in c.sets f.claimed f.has) in
    let both = (places_of-are c.winner c.position c.moves f.claimed.ply f.claimed.mask).0 there in
    (subst (IsLosersPly c.winner c.position c.moves) f.ply_is both.0, subst (IsGameMask c.position) f.mask_is both.1)

module _ (version : Version) (c : Claim) (h : HasFile version c) where
  formed : (s : ClaimedSet) → Contains c.sets s → IsFormed c.position s
  formed s has = All-contains (IsFormed c.position) c.sets s h.sets has

  pub file_is_claim : IsClaim c
  file_is_claim = record {
    sound = h.sound.sound;
    few = few_men version (length c.position.men) h.fits.most;
    found = λ ply mask losers game.
        is_some_in c.sets ply mask (subst (λ (ps : List (ℕ × ℕ)). Contains {X = ℕ × ℕ} ps (ply, mask)) (sym h.places) ((places_of-are c.winner c.position c.moves ply mask).1 (losers, game)));
    only = λ ply mask a is. at_place c h.places (found_in c.sets ply mask a is);
    tracks = λ ply mask a is.
        let f = found_in c.sets ply mask a is in
        let own = (formed f.claimed f.has).tracks in
        ap (λ (x : Automaton). x.tracks) (sym f.set_is) ∙ own ∙ ap (λ m. mask_tracks c.position m) f.mask_is;
  }

pub files_are_claims : FilesAreClaims
files_are_claims = λ version c h. file_is_claim version c h
