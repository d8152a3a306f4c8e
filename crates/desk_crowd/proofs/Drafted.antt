-- What a crowd's text says is a crowd.
use Rattle.std.proofs.Common.{◌≡◌, ℕ, ◌+◌, List, length, sym, ◌∙◌, ap, slice_index_or}
use Rattle.game_rules.specs.declared.men.Man.{Man}
use Rattle.game_rules.specs.declared.men.Place.{Place}
use Rattle.game_rules.specs.declared.men.Place.TheVariants.{Gone, At}
use Rattle.chess_text.specs.Draft.{Draft}
use Rattle.chess_text.specs.Grammar.{IsPlaceOf, crowds}
use Rattle.chess_text.specs.PositionText.{IsDraftOf}
use Rattle.line_engine.specs.Crowds.{IsCrowd, IsNearPlace}
use Rattle.line_engine.specs.declared.crowd.Crowd.{Crowd}
use Rattle.line_engine.proofs.CrowdLemmas.{are_near}
use Rattle.desk_text.specs.Text.{problem_of}
use Rattle.desk_crowd.specs.Crowd.{IsCrowdOf, problem_in}

place_near : (place : Place) → IsPlaceOf crowds place → IsNearPlace place
place_near Gone h = tt
place_near (At x y) h = record { x = h.0.near; y = h.1.near }

pub crowd_is : (d : Draft) → IsDraftOf crowds d → IsCrowd d.men
crowd_is d h = record { least = h.low; most = h.high; near = are_near d.men (λ k m below. place_near (slice_index_or d.men k m).place (h.fit k m below)) }

-- the crowd's problem is the one that the text says
pub same_problem : (d : Draft) (c : Crowd) (lines : ℕ) → IsCrowdOf d c → lines ≡ length d.men + 3 → problem_in c ≡ problem_of d lines
same_problem d c lines is' count =
    let all : length c.men.now + 3 ≡ lines = ap (λ (men : List Man). length men + 3) is'.men ∙ sym count in
    λ i. record { position = record { men = is'.men i; turn = is'.turn i }; winner = is'.winner i; lines = all i }
