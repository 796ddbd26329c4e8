-- What is told of a port.
use Rattle.std.proofs.Common.{◌≡◌, Option, Some, None, ap, refl, ◌∙◌}
use Rattle.std.specs.Option.{is_some, option_map}
use Rattle.ddr_world.specs.declared.world.Counts.{Counts}
use Rattle.ddr_world.specs.State.{PortSide}
use Rattle.ddr_world.specs.Told.{counts_of}
use Rattle.ddr_c.specs.Traffic.{port_numbers, port_numbers_of}
use Rattle.ddr_c.specs.declared.numbers.PortNumbers.{PortNumbers}
use Rattle.ddr_c.specs.declared.traffic.Traffic.{Traffic}

pub some_of_map : {X Y : Type 0} (f : X → Y) (o : Option X) → is_some (option_map f o) ≡ is_some o
some_of_map f None = refl
some_of_map f (Some x) = refl

pub numbers_told : (side : Option PortSide) (counts : Counts) (traffic : Traffic) (n : PortNumbers) → Some counts ≡ option_map counts_of side → n ≡ port_numbers counts traffic → Some n ≡ port_numbers_of side traffic
numbers_told None counts traffic n there is = cc
numbers_told (Some side) counts traffic n there is =
    let same : counts ≡ counts_of side = cc in
    ap (λ (x : PortNumbers). Some x) (is ∙ ap (λ (x : Counts). port_numbers x traffic) same)
