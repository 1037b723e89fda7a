-- Closed instances that other ones rest on: clearing and dropping, and steps of one to three workings.
mod PullingInstances
