-- Shapes of a picture (SVG 1.1, "Basic Shapes", "Paths", "Text").
use Rattle.std.specs.Prelude.{ℕ, ◌/◌, nat_le, if◌then◌else◌, List, [], ◌++◌, codes, length}
use Rattle.std.specs.Fmt.{decimal}
use Rattle.ddr_draw.specs.declared.scale.TheConstants.{LETTER_WIDTH}

-- where a rectangle lies
unfoldable pub area : ℕ → ℕ → ℕ → ℕ → List ℕ
area x y width height =
    codes "x='" ++ (decimal x ++ (codes "' y='" ++ (decimal y ++ (codes "' width='" ++ (decimal width ++ (codes "' height='" ++ (decimal height ++ codes "'")))))))

-- a rectangle that tells its title where the pointer rests on it
unfoldable pub rectangle : List ℕ → List ℕ → List ℕ → List ℕ
rectangle area fill title = codes "<rect " ++ (area ++ (codes " fill='" ++ (fill ++ (codes "' stroke='white'><title>" ++ (title ++ codes "</title></rect>\n")))))

-- a rectangle that tells nothing
unfoldable pub patch : List ℕ → List ℕ → List ℕ
patch area fill = codes "<rect " ++ (area ++ (codes " fill='" ++ (fill ++ codes "'/>\n")))

-- words that begin there; the pointer goes through them to the shape below
unfoldable pub words_at : ℕ → ℕ → List ℕ → List ℕ
words_at x y words = codes "<text x='" ++ (decimal x ++ (codes "' y='" ++ (decimal y ++ (codes "' pointer-events='none'>" ++ (words ++ codes "</text>\n")))))

-- words in a shape of that width; none where it has no room for them
unfoldable pub label : ℕ → ℕ → ℕ → List ℕ → List ℕ
label x y width words = if nat_le (length words) (width / LETTER_WIDTH) then words_at x y words else []

-- a line down from a height to another, and one to the right
unfoldable pub line_down : ℕ → ℕ → ℕ → List ℕ
line_down x y end = codes "<path d='M" ++ (decimal x ++ (codes " " ++ (decimal y ++ (codes "V" ++ (decimal end ++ codes "' stroke='#dddddd'/>\n")))))

unfoldable pub line_right : ℕ → ℕ → List ℕ
line_right y end = codes "<path d='M0 " ++ (decimal y ++ (codes "H" ++ (decimal end ++ codes "' stroke='#bbbbbb'/>\n")))
