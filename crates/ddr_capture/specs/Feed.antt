-- The lines of what is left to be read: the bytes that wait in a feed, and behind them those that the reader still gives.
use Rattle.std.specs.Prelude.{◌≡◌, ℕ, ◌+◌, ◌<◌, ◌≤◌, ◌==◌, Bool, true, false, List, [], ◌∷◌, ◌++◌, length, drop, Option, Some, None}
use Rattle.std.specs.List.{All, slice_range}
use Rattle.std.specs.Io.KnownBytes.{IsAtEnd, prepend_known}
use Rattle.ddr_capture.specs.declared.feed.Feed.{Feed}
use Rattle.ddr_capture.specs.declared.feed.Found.{Found}
use Rattle.ddr_capture.specs.declared.feed.Found.TheVariants as found
use Rattle.ddr_capture.specs.declared.feed.TheConstants.{LONGEST_LINE, MOST_KEPT}

-- the places of a feed lie in its bytes, of which there are never more than so many
pub record IsWell (feed : Feed) : Type 0 where
  pub line : feed.start ≤ feed.end
  pub behind : feed.end ≤ length feed.buffer.items
  pub waits : feed.from ≤ length feed.buffer.items
  pub few : length feed.buffer.items ≤ MOST_KEPT

-- the line that was found last
abbrev pub line_in : Feed → List ℕ
line_in feed = slice_range feed.buffer.items feed.start feed.end

-- the bytes that wait
abbrev pub waiting : Feed → List ℕ
waiting feed = drop feed.from feed.buffer.items

-- the bytes that wait and those that the reader still gives, where those are known
abbrev pub left : Feed → Option (List ℕ) → Option (List ℕ)
left feed more = prepend_known (waiting feed) more

abbrev pub IsUnfed : List ℕ → Type 0
IsUnfed bytes = All (λ byte. (byte == 10) ≡ false) bytes

-- the text begins with this line, a line feed ends it, and this stands behind
pub record BeginsWith (text line behind : List ℕ) : Type 0 where
  pub whole : text ≡ line ++ (10 ∷ behind)
  pub unfed : IsUnfed line

-- the text is this line, which lacks its end
pub record IsLast (text line behind : List ℕ) : Type 0 where
  pub whole : text ≡ line
  pub unfed : IsUnfed line
  pub some : 0 < length line
  pub none : behind ≡ []

abbrev pub IsFound : Found → List ℕ → List ℕ → List ℕ → Type 0
IsFound found.Line text line behind = BeginsWith text line behind
IsFound found.Last text line behind = IsLast text line behind
IsFound found.End text line behind = (text ≡ []) × (behind ≡ [])

-- so much was found of what was left, if that is known, and the rest is left
abbrev pub HasFound : Found → List ℕ → Option (List ℕ) → Option (List ℕ) → Type 0
HasFound f line None new = Unit {0}
HasFound f line (Some text) None = ⊥
HasFound f line (Some text) (Some behind) = IsFound f text line behind

-- the text's first line is longer than any that is read, even without a carriage return at its end
pub record IsTooLong (text : List ℕ) : Type 0 where
  pub front : List ℕ
  pub behind : List ℕ
  pub whole : text ≡ front ++ behind
  pub unfed : IsUnfed front
  pub long : LONGEST_LINE + 1 < length front

-- more was read behind what waited, or nothing is left to be read
abbrev pub IsRead : Bool → List ℕ → List ℕ → Option (List ℕ) → Type 0
IsRead true old new more = length old < length new
IsRead false old new more = (new ≡ old) × IsAtEnd more

-- a text and what of it is left now, where they are known
abbrev pub Along : (List ℕ → List ℕ → Type 0) → Option (List ℕ) → Option (List ℕ) → Type 0
Along P None new = Unit {0}
Along P (Some text) None = ⊥
Along P (Some text) (Some rest) = P text rest
