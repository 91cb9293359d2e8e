use Rattle.of_laws.proofs.WrittenReplies.{description_encoded, flow_encoded, aggregate_encoded, table_encoded, port_stats_encoded, group_encoded, group_description_encoded, features_encoded, port_description_encoded}
use Rattle.of_laws.proofs.replies.written_replies_are_encoded.Goals as goal

pub returns-clause-description : goal.returns-clause-description
returns-clause-description c = description_encoded

pub returns-clause-flow : goal.returns-clause-flow
returns-clause-flow c = flow_encoded

pub returns-clause-aggregate : goal.returns-clause-aggregate
returns-clause-aggregate c = aggregate_encoded

pub returns-clause-table : goal.returns-clause-table
returns-clause-table c = table_encoded

pub returns-clause-port_stats : goal.returns-clause-port_stats
returns-clause-port_stats c = port_stats_encoded

pub returns-clause-group : goal.returns-clause-group
returns-clause-group c = group_encoded

pub returns-clause-group_description : goal.returns-clause-group_description
returns-clause-group_description c = group_description_encoded

pub returns-clause-group_features : goal.returns-clause-group_features
returns-clause-group_features c = features_encoded

pub returns-clause-port_description : goal.returns-clause-port_description
returns-clause-port_description c = port_description_encoded
