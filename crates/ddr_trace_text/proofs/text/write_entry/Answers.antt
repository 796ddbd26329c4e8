-- Each command's numbers stand in their columns.
use Rattle.ddr_trace_text.specs.Text.{command_fields}
use Rattle.ddr_trace_text.proofs.text.write_entry.Goals as goal

pub returns-in-Act-clause-text : goal.returns-in-Act-clause-text
unfolding command_fields
returns-in-Act-clause-text c = rw c.in-Act.is (rw (c.from.ensures, c.from-in-Act.ensures, c.from-in-Act-2.ensures, c.from-in-Act-3.ensures) at c.write_record.ensures.text)

pub returns-in-Rd-clause-text : goal.returns-in-Rd-clause-text
unfolding command_fields
returns-in-Rd-clause-text c = rw c.in-Rd.is (rw (c.column_numbers-numbers.ensures) at c.write_record-in-Rd.ensures.text)

pub returns-in-Wr-clause-text : goal.returns-in-Wr-clause-text
unfolding command_fields
returns-in-Wr-clause-text c = rw c.in-Wr.is (rw (c.column_numbers-numbers-in-Wr.ensures) at c.write_record-in-Wr.ensures.text)

pub returns-in-Pre-clause-text : goal.returns-in-Pre-clause-text
unfolding command_fields
returns-in-Pre-clause-text c = rw c.in-Pre.is (rw (c.from-in-Pre.ensures, c.from-in-Pre-2.ensures, c.from-in-Pre-3.ensures) at c.write_record-in-Pre.ensures.text)

pub returns-in-PreAll-clause-text : goal.returns-in-PreAll-clause-text
unfolding command_fields
returns-in-PreAll-clause-text c = rw c.in-PreAll.is (rw (c.from-in-PreAll.ensures) at c.write_record-in-PreAll.ensures.text)

pub returns-in-Refresh-clause-text : goal.returns-in-Refresh-clause-text
unfolding command_fields
returns-in-Refresh-clause-text c = rw c.in-Refresh.is (rw (c.from-in-Refresh.ensures) at c.write_record-in-Refresh.ensures.text)

pub returns-in-RdAuto-clause-text : goal.returns-in-RdAuto-clause-text
unfolding command_fields
returns-in-RdAuto-clause-text c = rw c.in-RdAuto.is (rw (c.column_numbers-numbers-in-RdAuto.ensures) at c.write_record-in-RdAuto.ensures.text)

pub returns-in-WrAuto-clause-text : goal.returns-in-WrAuto-clause-text
unfolding command_fields
returns-in-WrAuto-clause-text c = rw c.in-WrAuto.is (rw (c.column_numbers-numbers-in-WrAuto.ensures) at c.write_record-in-WrAuto.ensures.text)
