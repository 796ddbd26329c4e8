-- `and` makes a struct of no bytes, whose items are those before and one more.
use Rattle.std.proofs.Common.{[], ◌∷◌, ◌++◌, refl}
use Rattle.std.proofs.raw_atomic.Walks.{proved}
use Rattle.bytes.proofs.Walks.{none, one, one_made}
use mir.Syntax.{a_type, named}
use mir.MapTy.{inst_fn}
use types.Kit.{‵, raw, ◌⊛◌, ◌$◌, ◌∵◌, !, qed, move, keep, split, fjoin, suffices, done}
use types.Part.{agg}
use types.Run.{enter, returns, and_then, no_more}
use types.ByLocal.{alloc_all, pass_all, free_all, look_at, get, sets}
use denote.Exit.{yes}
use denote.RattleType.{RattleType, owns, Valss}
use denote.Laws.{Is}
use denote.Param.{param, layouts}
use denote.Ref.{shr_vals, shr_Tells}
use denote.Signature.{plain, types_at}
use denote.Steps.{nothing, owned}
use denote.Struct.Laws.{makes}
use denote.Triple.Entry.{alive}
use denote.Triple.Walked.{says, Stays, stay_none_ref, Goes-none_ref, walk_of, ends_at}
use Rattle.std.specs.contracts.marker.PhantomData as kind
use Rattle.ddr_past.specs.contracts.past.Past.{the_row}
use Rattle.ddr_past.specs.contracts.past.Past.and as f
use Rattle.ddr_past.specs.contracts.past.Past.and.Key as key
use Rattle.ddr_past.proofs.past.Past.and.Statement.{statement}
use Rattle.ddr_past.proofs.past.Past.and.Code as code

abbrev stayed : (T : RattleType) → Stays (f.ended T).signature.params (f.ended T).kept
stayed T = (stay_none_ref (0 ∷ []) tt (plain (λ _. the_row (param 0 T))) yes, (stay_none_ref (1 ∷ []) tt (plain (λ _. param 0 T)) yes, tt))

pub and_spec : {M : Type 1} → statement M
and_spec 𝓤 𝓛 𝓜 𝓡 wired T laws =
    let at = layouts (a_type ∷ []) (T, tt) in
    let e = f.ended T in
    let c = f.clauses T 𝓛 𝓜.mem 𝓡.returns in
    let W = walk_of 𝓛 e (stayed T) c in
    proved 𝓛 e (stayed T) c 𝓜 𝓡
    (Goes-none_ref 𝓛 3 (0 ∷ []) tt (plain (λ _. the_row (param 0 T))) yes, (Goes-none_ref 𝓛 3 (1 ∷ []) tt (plain (λ _. param 0 T)) yes, tt))
    (key.name at) (inst_fn at code.function) (code.unfolded 𝓤 𝓛.H 𝓜 𝓡 wired (T, tt))
    (λ κs. (shr_vals, (shr_vals, tt))) (λ κs. (shr_Tells (named 0) κs.0 (the_row (param 0 T)), (shr_Tells (named 1) κs.1.0 (param 0 T), tt)))
    (λ κs qs bounds a ghosts are.
    let vs : Valss (types_at e.signature.params κs) = (shr_vals a.0, (shr_vals a.1.0, tt)) in
    let y : W.Ghost = ((κs, qs, bounds, a, vs), ghosts) in
    let made : (the_row (param 0 T)).Denot = record { kind = record {}; items = a.0.now.items ++ a.1.0.now ∷ [] } in
    qed 𝓛 ((raw (alive 𝓛 e.signature κs qs) ⊛ ‵ (owns (types_at e.signature.params κs) a vs)) ∷ raw ((c κs a).requires ghosts) ∷ []) ∵
    keep ! (0 ∷ []) $ split ! $
    enter ! _ _ _ _ _ $ alloc_all ! (λ l. pass_all ! refl ((tt, tt), ((tt, tt), tt)) $
    -- [the tokens; what the arguments own; the locals]
    sets ! (agg ! (no_more !)) refl (tt, tt) $
    sets ! (agg ! (and_then ! (get ! refl) (no_more !))) refl (tt, (tt, tt)) $
    returns ! (look_at ! 0 refl) $ free_all ! refl $
    suffices ! _ (ends_at 𝓛 e (stayed T) c y (one none) made (tt, (tt, tt)) (tt, (tt, tt))) $ says ! refl $
    nothing ! $ owned ! (kind.the_row (param 0 T)) (Is (kind.the_row (param 0 T))) (makes (kind.the_type (param 0 T)) tt 𝓛) (record {}) (none ∷ []) (tt, (refl, tt)) $
    one_made ! (kind.the_row (param 0 T)) (record {}) none $ fjoin ! $
    -- [what the result owns; the tokens; what the arguments own]
    move ! (1 ∷ 2 ∷ 0 ∷ []) $ done !))
