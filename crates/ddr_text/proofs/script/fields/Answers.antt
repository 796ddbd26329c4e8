use Rattle.std.proofs.Common.{rules, lit<}
use Rattle.ddr_text.proofs.FieldLemmas.{fields_last, fields_more}
use Rattle.ddr_text.proofs.script.fields.Goals as goal

pub fields-preserved : goal.fields-preserved
fields-preserved c = record {
  utf8 = search rules;
  said = fields_more _ _ _ c.fields.rest.now c.in-Some.field.now c.in-Some.behind.now (c.in-Some.ensures.byte (lit< tt) (λ w o h. h)) c.add_field.ensures c.fields.invariant.said;
}

pub returns : goal.returns
returns c = fields_last _ _ _ c.fields.rest.now (c.in_default.ensures.byte (lit< tt) (λ w o h. h)) c.add_field-2.ensures c.fields.invariant.said
