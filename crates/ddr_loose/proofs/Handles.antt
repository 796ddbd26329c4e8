-- What a library for C proves of its handle: the walks of the three functions that make it and take it apart, for whatever type it holds.
-- A handle is a struct of a library's own, since no struct with type parameters crosses to C: a pointer without a type, `Global`, and what it
-- holds. `IsHandle` is what the library says of it: its fields, and laws that are each a `refl`.
use Rattle.std.proofs.Common.{◌≡◌, List, [], ◌∷◌, ◌++◌, refl, sym, ap, subst, true}
use Rattle.std.specs.Prelude.{Option, None, Some}
use Rattle.std.specs.Option.{is_some}
use seplogic.Ra.Ura.{Ura}
use mir.Syntax.{Body, Callee, Fn, Local, Sym, Ty, aggregate, assign, copy, field, int, local, place, return, rv_opd, seq, tcons, tnil, ty_ptr, ty_struct, value_local, w64}
use mir.Raw.{raw as bare}
use mir.Val.{Val, vptr, vstruct, of_list}
use base.Logic.{SProp, ent, emp, never, fst∗, id⊢}
use base.Fml.{Fml, fsep, fex, ftrue}
use prog.Model.{Model}
use prog.Wp.{WpFn, Closed}
use types.Logic.{Logic, sem}
use types.Kit.{‵, raw, ◌⊛◌, ◌$◌, ◌∵◌, !, qed, by, move, keep, drop, split, fsplit, fjoin, fpick, suffices, rewrite, use0, use1, feq_l}
use types.Run.{lit, stop, fld, of_opd, no_more, and_then, returns, enter}
use types.ByLocal.{alloc_all, pass_all, free_all, look_at, get, get_in, sets}
use types.Part.{agg, sub, whole}
use contract.Monad.{fact, fact_i}
use contract.Running.{Running, MachineTables, tables}
use denote.Builtin.{RawPtr}
use denote.Exit.{Last, left, rest, yes}
use denote.Memory.{lone}
use denote.RattleType.{RattleType, Valss, owns}
use denote.RawPtr.{Ptr, block_ptr, null_ptr, ptr_val, in_a_block, rawptr_Lawful}
use denote.Signature.{types_at, plain}
use denote.Steps.{nothing, heard}
use denote.Struct.Owning.{shape}
use denote.Struct.Struct.{within}
use denote.Triple.Clauses.{Clauses, Ended, closing}
use denote.Triple.Spec.{Meets}
use denote.Triple.Walked.{Stays, stay_dropped, Goes-dropped, walk_of}
use Rattle.std.specs.Box.Ownership.{box_owns}
use Rattle.std.specs.contracts.impls.GlobalAllocator.TheImpl.{ghosts}
use Rattle.std.proofs.alloc.Calls.{handle_tells}
use Rattle.std.proofs.raw_atomic.Walks.{proved_at, leaves}
use Rattle.ddr_loose.specs.Held.{held}
use Rattle.ddr_loose.specs.contracts.loose.Loose as loose
use Rattle.ddr_loose.proofs.Values.{both, Loose, loose_good, loose_out, loose_in, Z, LZ, heap_al, handle_good, fields_in, held_some}

-- what a pointer, an allocator and what is held own, at these machine values
abbrev pub owned : (R : RattleType) → Ptr → Z.Denot → Option R.Denot → List Val → Fml
owned R p a o vs = fsep (fex (Valss (RawPtr ∷ Z ∷ [])) (within (shape (loose.the_type R Z ghosts)) (p, (a, tt)) vs)) (held R o a p)

-- a struct H of a pointer and an allocator, which holds a value of R or none: what it is made of, and what its row says of that
pub record IsHandle (R H : RattleType) : Type 1 where
  pub parts : H.Denot → Ptr × (Z.Denot × Option R.Denot)
  pub make : Ptr × (Z.Denot × Option R.Denot) → H.Denot
  pub made : (x : Ptr × (Z.Denot × Option R.Denot)) → parts (make x) ≡ x
  pub owns_it : (d : H.Denot) (vs : List Val) → H.own_val d vs ≡ owned R (parts d).0 (parts d).1.0 (parts d).1.1 vs
  pub silent : (d : H.Denot) (f : Last (H.exit yes) d) → left (H.exit yes) d f ≡ ftrue

-- ---- the code, at the struct's name
abbrev handle_ty : Sym → Ty
handle_ty name = ty_struct name (tcons ty_ptr (tcons (lone Z.mir) tnil))

abbrev loose_ty : RattleType → Ty
loose_ty R = lone (Loose R Z LZ ghosts).mir

abbrev fn_of : List Local → Body → Fn
fn_of locals body = record { lifetimes = 0; outlives = []; ty_params = []; givens = 0; params = 1; locals = locals; body = body }

abbrev fields_moved : Body
fields_moved =
    seq (assign (place 2 []) (rv_opd (copy (place 1 (field 0 ∷ [])))))
    (seq (assign (place 3 []) (rv_opd (copy (place 1 (field 1 ∷ [])))))
    (seq (assign (place 4 []) (rv_opd (copy (place 2 []))))
    (seq (assign (place 0 []) (aggregate (copy (place 4 []) ∷ copy (place 3 []) ∷ []))) return)))

abbrev pub empty_fn : Sym → Fn
empty_fn name = fn_of (local (handle_ty name) value_local ∷ local (lone Z.mir) value_local ∷ []) (seq (assign (place 0 []) (aggregate (int w64 0 ∷ copy (place 1 []) ∷ []))) return)

abbrev pub of_fn : Sym → RattleType → Fn
of_fn name R = fn_of (local (handle_ty name) value_local ∷ local (loose_ty R) value_local ∷ local ty_ptr value_local ∷ local (lone Z.mir) value_local ∷ local ty_ptr value_local ∷ []) fields_moved

abbrev pub into_loose_fn : Sym → RattleType → Fn
into_loose_fn name R = fn_of (local (loose_ty R) value_local ∷ local (handle_ty name) value_local ∷ local ty_ptr value_local ∷ local (lone Z.mir) value_local ∷ local ty_ptr value_local ∷ []) fields_moved

abbrev from : RattleType → RattleType → Ended
from P Q = record { signature = record { lifetimes = 0; outlives = []; params = plain (λ _. P) ∷ []; result = plain (λ _. Q) }; kept = (yes, tt) }

module _ {M : Type 1} (𝓤 : Ura M) (𝓛 : Logic 𝓤) (𝓜 : Model 𝓤 𝓛.H) (𝓡 : Running 𝓤 𝓛.H 𝓜) (name : Sym) {R H : RattleType} (is : IsHandle R H) where
  abbrev 𝓣 : MachineTables 𝓤 𝓛.H 𝓜
  𝓣 = tables 𝓤 𝓛.H 𝓜 𝓡 𝓡.env

  abbrev Lo : RattleType
  Lo = Loose R Z LZ ghosts

  abbrev holds : H.Denot → Option R.Denot
  holds d = (is.parts d).1.1

  abbrev make : Ptr → Z.Denot → Option R.Denot → H.Denot
  make p a o = is.make (p, (a, o))

  holds_made : (p : Ptr) (a : Z.Denot) (o : Option R.Denot) → holds (make p a o) ≡ o
  holds_made p a o = ap (λ (x : Ptr × (Z.Denot × Option R.Denot)). x.1.1) (is.made (p, (a, o)))

  own_in : (p : Ptr) (a : Z.Denot) (o : Option R.Denot) (vs : List Val) → ent 𝓤 (sem 𝓛 (owned R p a o vs)) (sem 𝓛 (H.own_val (make p a o) vs))
  own_in p a o vs =
      subst (λ (F : Fml). ent 𝓤 (sem 𝓛 (owned R p a o vs)) (sem 𝓛 F)) (sym (is.owns_it (make p a o) vs))
      (subst (λ (x : Ptr × (Z.Denot × Option R.Denot)). ent 𝓤 (sem 𝓛 (owned R p a o vs)) (sem 𝓛 (owned R x.0 x.1.0 x.1.1 vs))) (sym (is.made (p, (a, o)))) (id⊢ 𝓤 (sem 𝓛 (owned R p a o vs))))

  abbrev pub empty_clauses : Clauses 𝓤 (from Z H)
  empty_clauses = λ κs a. record { ghost = Unit {0}; requires = λ _. emp 𝓤; ensures = λ _ r _. fact 𝓤 (holds r ≡ None) }

  abbrev pub of_clauses : Clauses 𝓤 (from Lo H)
  of_clauses = λ κs a. record { ghost = Unit {0}; requires = λ _. emp 𝓤; ensures = λ _ r _. fact 𝓤 (holds r ≡ Some a.0.value) }

  abbrev pub into_loose_clauses : Clauses 𝓤 (from H Lo)
  into_loose_clauses = λ κs a. record { ghost = Unit {0}; requires = λ _. fact 𝓤 (is_some (holds a.0) ≡ true); ensures = λ _ r _. fact 𝓤 (holds a.0 ≡ Some r.value) }

  -- a handle that owns nothing
  pub empty_meets : (k : Callee) → Closed 𝓤 𝓛.H 𝓣.C 𝓣.Λ k (empty_fn name) → Meets 𝓛 (from Z H).signature (𝓣.C k) (closing 𝓛 (from Z H) empty_clauses)
  empty_meets k unfolded =
      let En = from Z H in let c = empty_clauses in let fn = empty_fn name in
      let hs : Stays En.signature.params En.kept = (stay_dropped (plain (λ _. Z)) yes, tt) in
      proved_at 𝓛 En hs c 𝓜 𝓡 (Goes-dropped 𝓛 0 (plain (λ _. Z)) yes (λ κs x f. refl), tt) k fn unfolded (λ z are.
      let a = z.0.3.0 in let d : H.Denot = make null_ptr a None in let Post : Val → SProp 𝓤 = (walk_of 𝓛 En hs c).post z in let Run : List Val → SProp 𝓤 = λ ws. WpFn 𝓤 𝓛.H 𝓣.C 𝓣.Λ fn ws Post in
      qed 𝓛 ((‵ ftrue ⊛ ‵ (owns (types_at En.signature.params z.0.0) z.0.3 z.0.4)) ∷ raw (emp 𝓤) ∷ []) ∵ split ! $ move ! (1 ∷ []) $ fsplit ! $ handle_tells heap_al ! a z.0.4.0 (λ h ea fits.
      -- [the allocator; nothing; the tokens; the empty requires]
      let v : Val = both (ptr_val null_ptr) h in let typed = handle_good (ptr_val null_ptr) h ((rawptr_Lawful 𝓛).typed null_ptr (ptr_val null_ptr ∷ []) refl).0 fits in
      suffices ! (Run (h ∷ [])) (subst (λ (ws : List Val). ent 𝓤 (Run (h ∷ [])) (Run ws)) (sym (λ i. ea i ++ [])) (id⊢ 𝓤 (Run (h ∷ [])))) $
      enter ! 𝓣.C 𝓣.Λ fn (h ∷ []) Post $ alloc_all ! (λ l. pass_all ! refl (fits, tt) $
      sets ! (agg ! (and_then ! (lit ! tt) (and_then ! (get ! refl) (no_more !)))) refl typed $
      nothing ! $ fields_in R Z LZ ghosts ! ftrue null_ptr h a $ use1 𝓛 (‵ (H.own_val d (v ∷ []))) (own_in null_ptr a None (v ∷ [])) $
      use0 𝓛 (raw (fact 𝓤 (holds d ≡ None))) (fact_i 𝓤 (holds d ≡ None) (emp 𝓤) (holds_made null_ptr a None)) $ nothing ! $ nothing ! $ fjoin ! $
      returns ! (look_at ! 0 refl) $ free_all ! refl $ keep ! (4 ∷ 0 ∷ 2 ∷ 1 ∷ []) $ by ! (leaves 𝓛 En hs c z v d (tt, tt) (tt, tt)))))

  -- a handle that keeps what the box's pointer owns, and forgets its value
  pub of_meets : (k : Callee) → Closed 𝓤 𝓛.H 𝓣.C 𝓣.Λ k (of_fn name R) → Meets 𝓛 (from Lo H).signature (𝓣.C k) (closing 𝓛 (from Lo H) of_clauses)
  of_meets k unfolded =
      let En = from Lo H in let c = of_clauses in let fn = of_fn name R in
      let hs : Stays En.signature.params En.kept = (stay_dropped (plain (λ _. Lo)) yes, tt) in
      proved_at 𝓛 En hs c 𝓜 𝓡 (Goes-dropped 𝓛 0 (plain (λ _. Lo)) yes (λ κs x f. refl), tt) k fn unfolded (λ z are.
      let u = z.0.3.0 in let S : Option R.Denot = Some u.value in let a = u.alloc in let Post : Val → SProp 𝓤 = (walk_of 𝓛 En hs c).post z in let Run : List Val → SProp 𝓤 = λ ws. WpFn 𝓤 𝓛.H 𝓣.C 𝓣.Λ fn ws Post in
      qed 𝓛 ((‵ ftrue ⊛ ‵ (owns (types_at En.signature.params z.0.0) z.0.3 z.0.4)) ∷ raw (emp 𝓤) ∷ []) ∵ split ! $ move ! (1 ∷ []) $ fsplit ! $ loose_out R Z LZ ghosts ! u z.0.4.0 (λ b o h e ws fits.
      -- [the box; the allocator; nothing; the tokens; the empty requires]
      let w : Val = both (vptr b o) h in let d : H.Denot = make (block_ptr b o) a S in let typed = loose_good R Z LZ ghosts b o h fits in
      suffices ! (Run (w ∷ [])) (subst (λ (us : List Val). ent 𝓤 (Run (w ∷ [])) (Run us)) (sym (λ i. ws i ++ [])) (id⊢ 𝓤 (Run (w ∷ [])))) $
      enter ! 𝓣.C 𝓣.Λ fn (w ∷ []) Post $ alloc_all ! (λ l. pass_all ! refl (typed, tt) $
      sets ! (of_opd ! (get_in ! (fld ! refl (stop !)) (sub ! 0 refl (whole !)))) refl (tt, tt) $ sets ! (of_opd ! (get_in ! (fld ! refl (stop !)) (sub ! 1 refl (whole !)))) refl fits $ sets ! (of_opd ! (get ! refl)) refl (tt, tt) $
      sets ! (agg ! (and_then ! (get ! refl) (and_then ! (get ! refl) (no_more !)))) refl typed $
      loose_in R Z LZ ghosts ! b o h a u.value $ use1 𝓛 (‵ (H.own_val d (w ∷ []))) (own_in (block_ptr b o) a S (w ∷ [])) $
      use0 𝓛 (raw (fact 𝓤 (holds d ≡ S))) (fact_i 𝓤 (holds d ≡ S) (emp 𝓤) (holds_made (block_ptr b o) a S)) $ nothing ! $ nothing ! $ fjoin ! $
      returns ! (look_at ! 0 refl) $ free_all ! refl $ keep ! (4 ∷ 0 ∷ 2 ∷ 1 ∷ []) $ by ! (leaves 𝓛 En hs c z w d (tt, tt) (tt, tt)))))

  -- the box's pointer with what it owns, whatever value that is
  pub into_loose_meets : (k : Callee) → Closed 𝓤 𝓛.H 𝓣.C 𝓣.Λ k (into_loose_fn name R) → Meets 𝓛 (from H Lo).signature (𝓣.C k) (closing 𝓛 (from H Lo) into_loose_clauses)
  into_loose_meets k unfolded =
      let En = from H Lo in let c = into_loose_clauses in let fn = into_loose_fn name R in
      let hs : Stays En.signature.params En.kept = (stay_dropped (plain (λ _. H)) yes, tt) in
      proved_at 𝓛 En hs c 𝓜 𝓡 (Goes-dropped 𝓛 0 (plain (λ _. H)) yes (λ κs x f. is.silent x f), tt) k fn unfolded (λ z are.
      let v = z.0.3.0 in let a = (is.parts v).1.0 in let p = (is.parts v).0 in let Post : Val → SProp 𝓤 = (walk_of 𝓛 En hs c).post z in let Run : List Val → SProp 𝓤 = λ ws. WpFn 𝓤 𝓛.H 𝓣.C 𝓣.Λ fn ws Post in
      qed 𝓛 ((‵ ftrue ⊛ ‵ (owns (types_at En.signature.params z.0.0) z.0.3 z.0.4)) ∷ raw (fact 𝓤 (is_some (holds v) ≡ true)) ∷ []) ∵
      move ! (1 ∷ []) $ heard ! (is_some (holds v) ≡ true) (λ is_full. let it = held_some (holds v) is_full in let x = it.0 in split ! $ move ! (1 ∷ []) $ fsplit ! $
      rewrite ! 0 (λ (F : Fml). ‵ F) (is.owns_it v z.0.4.0) refl $
      fsplit ! $ fpick ! (λ vss. fsplit ! $ feq_l ! (λ ev. fsplit ! $ feq_l ! (λ ep. fsplit ! $ handle_tells heap_al ! a vss.1.0 (λ h ea fits. move ! (1 ∷ []) $ drop ! $ move ! (1 ∷ []) $
      rewrite ! 0 (λ (f : Option R.Denot). ‵ (held R f a p)) it.1 refl $ in_a_block ! p (λ q. box_owns (ghosts.dealloc_token a) R q x) (fst∗ 𝓤 (never 𝓤) (sem 𝓛 (ghosts.dealloc_token a (bare (lone R.mir)) null_ptr))) (λ b o e.
      -- [the box; the allocator; nothing; the tokens]
      let w : Val = both (vptr b o) h in let typed = loose_good R Z LZ ghosts b o h fits in
      let ws : z.0.4.0 ≡ w ∷ [] = subst (λ (q : Ptr). z.0.4.0 ≡ both (ptr_val q) h ∷ []) e
      (subst (λ (us : List Val). z.0.4.0 ≡ vstruct (of_list (ptr_val p ∷ (us ++ []))) ∷ []) ea (subst (λ (ps : List Val). z.0.4.0 ≡ vstruct (of_list (ps ++ (vss.1.0 ++ []))) ∷ []) ep ev)) in
      suffices ! (Run (w ∷ [])) (subst (λ (us : List Val). ent 𝓤 (Run (w ∷ [])) (Run us)) (sym (λ i. ws i ++ [])) (id⊢ 𝓤 (Run (w ∷ [])))) $
      enter ! 𝓣.C 𝓣.Λ fn (w ∷ []) Post $ alloc_all ! (λ l. pass_all ! refl (typed, tt) $
      sets ! (of_opd ! (get_in ! (fld ! refl (stop !)) (sub ! 0 refl (whole !)))) refl (tt, tt) $ sets ! (of_opd ! (get_in ! (fld ! refl (stop !)) (sub ! 1 refl (whole !)))) refl fits $ sets ! (of_opd ! (get ! refl)) refl (tt, tt) $
      sets ! (agg ! (and_then ! (get ! refl) (and_then ! (get ! refl) (no_more !)))) refl typed $
      loose_in R Z LZ ghosts ! b o h a x $ use0 𝓛 (raw (fact 𝓤 (holds v ≡ Some x))) (fact_i 𝓤 (holds v ≡ Some x) (emp 𝓤) it.1) $ nothing ! $ nothing ! $ fjoin ! $
      returns ! (look_at ! 0 refl) $ free_all ! refl $ keep ! (4 ∷ 0 ∷ 2 ∷ 1 ∷ []) $ by ! (leaves 𝓛 En hs c z w (record { at = block_ptr b o; alloc = a; value = x }) (rest (H.exit yes) v, tt) (tt, tt))))))))))
