-- The options of a side in a mask, in order.
use Rattle.std.specs.Prelude.{ℕ, zero, suc, Bool, true, false, ◌&&◌, not, if◌then◌else◌, List, [], ◌∷◌, ◌++◌, length, Option, Some, None}
use Rattle.game_rules.specs.declared.men.Kind.{Kind}
use Rattle.game_rules.specs.declared.men.Kind.TheVariants.{King}
use Rattle.game_rules.specs.declared.men.Side.{Side}
use Rattle.game_rules.specs.declared.men.Side.TheVariants.{White, Black}
use Rattle.game_rules.specs.declared.men.Man.{Man}
use Rattle.rule_formula.specs.declared.opt.Opt.{Opt}
use Rattle.game_rules.specs.Rays.{rays_of, serves_captures, serves_moves}
use Rattle.rule_formula.specs.Placed.{is_live}
use Rattle.game_laws.specs.Stock.{stock_man}

abbrev pub is_side : Side → Side → Bool
is_side White White = true
is_side White Black = false
is_side Black White = false
is_side Black Black = true

abbrev pub is_king : Kind → Bool
is_king King = true
is_king _ = false

abbrev pub is_prey_man : Side → Option Man → Bool
is_prey_man s None = false
is_prey_man s (Some m) = not (is_side m.side s) && not (is_king m.kind)

-- man k is a live enemy other than the king
abbrev pub is_prey : List Man → ℕ → Side → ℕ → Bool
is_prey stock mask s k = is_live mask k && is_prey_man s (stock_man stock k)

abbrev pub option : ℕ → ℕ → ℕ → Opt
option i n t = record { man = i; ray = n; taken = t }

-- the captures of man i along ray n, of the first k men
abbrev pub captures_to : List Man → ℕ → Side → ℕ → ℕ → ℕ → List Opt
captures_to stock mask s i n zero = []
captures_to stock mask s i n (suc k) =
    if is_prey stock mask s (suc k) then captures_to stock mask s i n k ++ option i n (suc k)
    ∷ [] else captures_to stock mask s i n k

-- the captures of all men
abbrev pub captures_of : List Man → ℕ → Side → ℕ → ℕ → List Opt
captures_of stock mask s i n = captures_to stock mask s i n (length stock)

-- the options of man i along ray n
abbrev pub ray_options : List Man → ℕ → Side → Kind → ℕ → ℕ → List Opt
ray_options stock mask s sort i n =
    (if serves_moves sort n then option i n 0 ∷ [] else [])
    ++ (if serves_captures sort n then captures_of stock mask s i n else [])

-- the options along the first n rays
abbrev pub rays_to : List Man → ℕ → Side → Kind → ℕ → ℕ → List Opt
rays_to stock mask s sort i zero = []
rays_to stock mask s sort i (suc n) = rays_to stock mask s sort i n ++ ray_options stock mask s sort i n

-- the options of man i, if he is live and of the side
abbrev pub his_options : List Man → ℕ → Side → ℕ → Man → List Opt
his_options stock mask s i m =
    if is_live mask i && is_side m.side s then rays_to stock mask s m.kind i (length (rays_of m.kind m.side)) else []

-- the options of man i, if he exists
abbrev pub man_options : List Man → ℕ → Side → ℕ → Option Man → List Opt
man_options stock mask s i None = []
man_options stock mask s i (Some m) = his_options stock mask s i m

-- the options of the first n men
abbrev pub options_to : List Man → ℕ → Side → ℕ → List Opt
options_to stock mask s zero = []
options_to stock mask s (suc n) =
    options_to stock mask s n ++ man_options stock mask s (suc n) (stock_man stock (suc n))

abbrev pub options_of : List Man → ℕ → Side → List Opt
options_of stock mask s = options_to stock mask s (length stock)
