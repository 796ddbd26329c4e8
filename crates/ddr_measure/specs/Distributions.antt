-- How some numbers are spread: by numbers below 16, and from there on by eighths of what lies between a power of two and the next.
use Rattle.std.specs.Prelude.{ℕ, ◌+◌, ◌-◌, ◌*◌, ◌/◌, ◌^◌, ◌==◌, nat_lt, max, min, if◌then◌else◌, replicate, slice_index, slice_set, List, [], ◌∷◌}
use Rattle.std.specs.Int.{leading_zeros, w64}
use Rattle.ddr_statistics.specs.Noted.{raised}
use Rattle.ddr_measure.specs.declared.distribution.TheConstants.{CLASSES}
use Rattle.ddr_measure.specs.declared.distribution.Distribution.{Distribution}

-- how many binary digits a number has behind its first four
abbrev pub scale_of : ℕ → ℕ
scale_of value = 64 - leading_zeros w64 value - 4

-- its class: numbers with the same first four digits, and as many behind them, are one
abbrev pub class_of : ℕ → ℕ
class_of value = 8 * scale_of value + value / 2 ^ scale_of value

-- how many digits the numbers of a class have behind their first four
abbrev pub scale_at : ℕ → ℕ
scale_at class = class / 8 - 1

-- the least number of a class, and the greatest
abbrev pub first_of : ℕ → ℕ
first_of class = (class - 8 * scale_at class) * 2 ^ scale_at class

abbrev pub last_of : ℕ → ℕ
last_of class = first_of class + (2 ^ scale_at class - 1)

abbrev pub no_distribution : Distribution
no_distribution = record { count = 0; sum = 0; least = 0; most = 0; classes = replicate CLASSES 0 }

abbrev pub with_class : ℕ → List ℕ → List ℕ
with_class class classes = slice_set classes class (raised 1 (slice_index classes class))

abbrev pub least_of : Distribution → ℕ → ℕ
least_of spread value = if spread.count == 0 then value else min spread.least value

-- one number more
unfoldable pub with_value : ℕ → Distribution → Distribution
with_value value spread = record {
  count = raised 1 spread.count;
  sum = raised value spread.sum;
  least = least_of spread value;
  most = max spread.most value;
  classes = with_class (class_of value) spread.classes;
}

-- the greatest number of the first class with which enough are counted, of the classes from this one on, before which so many are
abbrev pub bound_from : ℕ → ℕ → ℕ → List ℕ → ℕ
bound_from wanted seen class [] = 18446744073709551615
bound_from wanted seen class (count ∷ more) =
    if nat_lt (1000 * (seen + count)) wanted then bound_from wanted (seen + count) (class + 1) more else last_of class

-- a number that so many in a thousand don't pass
abbrev pub bound_of : ℕ → Distribution → ℕ
bound_of thousandths spread = bound_from (thousandths * spread.count) 0 0 spread.classes
