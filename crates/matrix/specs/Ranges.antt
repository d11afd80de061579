-- The numbers that count from 1.
use Rattle.std.specs.Prelude.{ℕ, Bool, ◌&&◌, nat_le}

-- one of 1 to n
abbrev pub within : ℕ → ℕ → Bool
within p n = nat_le 1 p && nat_le p n
