-- `new` makes a struct of no bytes, whose items are none.
use Rattle.std.proofs.Common.{[], ◌∷◌, refl}
use Rattle.std.proofs.raw_atomic.Walks.{proved}
use Rattle.bytes.proofs.Walks.{none, one, one_made}
use mir.Syntax.{a_type}
use mir.MapTy.{inst_fn}
use types.Kit.{‵, raw, ◌⊛◌, ◌$◌, ◌∵◌, !, qed, move, keep, split, fjoin, suffices, done}
use types.Part.{agg}
use types.Run.{enter, returns, and_then, no_more}
use types.ByLocal.{alloc_all, pass_all, free_all, look_at, get, sets}
use denote.RattleType.{owns}
use denote.Laws.{Is}
use denote.Param.{param, layouts}
use denote.Signature.{types_at}
use denote.Steps.{nothing, owned}
use denote.Struct.Laws.{makes}
use denote.Triple.Entry.{alive}
use denote.Triple.Walked.{says, walk_of, ends_at}
use Rattle.std.specs.contracts.marker.PhantomData as kind
use Rattle.ddr_past.specs.contracts.past.Past.{the_row}
use Rattle.ddr_past.specs.contracts.past.Past.new as f
use Rattle.ddr_past.specs.contracts.past.Past.new.Key as key
use Rattle.ddr_past.proofs.past.Past.new.Statement.{statement}
use Rattle.ddr_past.proofs.past.Past.new.Code as code

pub new_spec : {M : Type 1} → statement M
new_spec 𝓤 𝓛 𝓜 𝓡 wired T laws =
    let at = layouts (a_type ∷ []) (T, tt) in
    let e = f.ended T in
    let c = f.clauses T 𝓛 𝓜.mem 𝓡.returns in
    let W = walk_of 𝓛 e tt c in
    proved 𝓛 e tt c 𝓜 𝓡 tt (key.name at) (inst_fn at code.function) (code.unfolded 𝓤 𝓛.H 𝓜 𝓡 wired (T, tt))
    (λ κs. tt) (λ κs. tt) (λ κs qs bounds a ghosts are.
    let y : W.Ghost = ((κs, qs, bounds, a, tt), ghosts) in
    let made : (the_row (param 0 T)).Denot = record { kind = record {}; items = [] } in
    qed 𝓛 ((raw (alive 𝓛 e.signature κs qs) ⊛ ‵ (owns (types_at e.signature.params κs) a tt)) ∷ raw ((c κs a).requires ghosts) ∷ []) ∵
    keep ! (0 ∷ []) $ split ! $ keep ! (0 ∷ []) $
    enter ! _ _ _ _ _ $ alloc_all ! (λ l. pass_all ! refl tt $
    -- [the tokens; the locals]
    sets ! (agg ! (no_more !)) refl (tt, tt) $
    sets ! (agg ! (and_then ! (get ! refl) (no_more !))) refl (tt, (tt, tt)) $
    returns ! (look_at ! 0 refl) $ free_all ! refl $
    suffices ! _ (ends_at 𝓛 e tt c y (one none) made tt tt) $ says ! refl $
    nothing ! $ owned ! (kind.the_row (param 0 T)) (Is (kind.the_row (param 0 T))) (makes (kind.the_type (param 0 T)) tt 𝓛) (record {}) (none ∷ []) (tt, (refl, tt)) $
    one_made ! (kind.the_row (param 0 T)) (record {}) none $ fjoin ! $
    -- [what the result owns; the tokens]
    nothing ! $ move ! (2 ∷ 0 ∷ 1 ∷ []) $ done !))
