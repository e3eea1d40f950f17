use Rattle.cbor_de.proofs.de.Deserializer.keyed.Goals as goal

pub returns-in-None-clause-memory : goal.returns-in-None-clause-memory
returns-in-None-clause-memory g c = rw c.in-None.is c.field.ensures.memory

pub returns-in-Some-clause-memory : goal.returns-in-Some-clause-memory
returns-in-Some-clause-memory g c = rw c.in-Some.is c.labelled.ensures.memory
