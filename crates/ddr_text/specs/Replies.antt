-- The line of a reply.
use Rattle.std.specs.Prelude.{ℕ, List, [], ◌∷◌, ◌++◌, codes}
use Rattle.std.specs.Fmt.{decimal}
use Rattle.hex.specs.Hex.{encode_lower}
use Rattle.ddr_address_map.specs.declared.request.Kind.{Kind}
use Rattle.ddr_address_map.specs.declared.request.Kind.TheVariants.{Read, Write}
use Rattle.ddr_reorder.specs.Replies.{Answer}

-- what was done, and its address; for a read the bytes in lower case
abbrev pub done_text : Kind → Answer → List ℕ
done_text Read a = codes " read " ++ (decimal a.echo.addr ++ (codes " " ++ (encode_lower a.bytes ++ 10 ∷ [])))
done_text Write a = codes " write " ++ (decimal a.echo.addr ++ 10 ∷ [])

-- `PORT NUMBER read ADDR HEX`, or `PORT NUMBER write ADDR`
unfoldable pub reply_text : ℕ → Answer → List ℕ
reply_text port a = decimal port ++ (codes " " ++ (decimal a.number ++ done_text a.echo.kind a))
