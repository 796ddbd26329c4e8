-- The legend of a picture of lanes.
use Rattle.std.specs.Prelude.{ℕ, ◌+◌, ◌*◌, List, ◌++◌, codes}
use Rattle.ddr_draw.specs.declared.colours.TheConstants.{ACTIVATE, OPEN_ROW, PRECHARGE, READ, REFRESH, WRITE}
use Rattle.ddr_draw.specs.declared.scale.TheConstants.{LEGEND_PART}
use Rattle.ddr_draw.specs.Shapes.{area, patch, words_at}

-- a colour with what it stands for
unfoldable pub swatch : ℕ → List ℕ → List ℕ → List ℕ
swatch place fill words = patch (area (LEGEND_PART * place + 8) 6 12 12) fill ++ words_at (LEGEND_PART * place + 8 + 16) 15 words

unfoldable pub legend : List ℕ
legend =
    swatch 0 ACTIVATE.now (codes "ACT") ++ (swatch 1 OPEN_ROW.now (codes "open row") ++ (swatch 2 READ.now (codes "RD, RDA")
    ++ (swatch 3 WRITE.now (codes "WR, WRA") ++ (swatch 4 PRECHARGE.now (codes "PRE, PREA") ++ swatch 5 REFRESH.now (codes "REF")))))
