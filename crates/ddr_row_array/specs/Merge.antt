-- The data mask of a write.
use Rattle.std.specs.Prelude.{◌≡◌, ℕ, ◌+◌, ◌<◌, ◌≤◌, ◌==◌, if◌then◌else◌, List, length, map, slice_index}
use Rattle.ddr_timing.specs.declared.units.TheConstants.{LINE_BYTES}
use Rattle.std.specs.Int.{bit_at}
use Rattle.std.specs.List.{range_with_len}

-- byte i of `new` where the mask has bit i, and else of `old`
abbrev pub byte_of : ℕ → List ℕ → List ℕ → ℕ → ℕ
byte_of mask new old i = if bit_at mask i == 1 then slice_index new i else slice_index old i

-- the 64 bytes that a write leaves
unfoldable pub merged : ℕ → List ℕ → List ℕ → List ℕ
merged mask new old = map (byte_of mask new old) (range_with_len 0 LINE_BYTES)

-- the eight bytes from place `start` on are those that a write leaves, and the others are as they were
pub record MergesWord (mask : ℕ) (line old new : List ℕ) (start : ℕ) : Type 0 where
  pub long : length new ≡ LINE_BYTES
  pub before : (k : ℕ) → k < start → slice_index new k ≡ slice_index old k
  pub within : (j : ℕ) → j < 8 → slice_index new (start + j) ≡ byte_of mask line old (start + j)
  pub after : (k : ℕ) → start + 8 ≤ k → slice_index new k ≡ slice_index old k
